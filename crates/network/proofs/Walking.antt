-- Walks, and nodes that are none.
use Rattle.std.proofs.Common.{◌≡◌, ℕ, ◌≤◌, false, ◌&&◌, leb, sym, ◌≢◌, [], ◌∷◌, Some, None, subst, arith}
use Rattle.std.proofs.lemmas.Bool.{and_from, both_ways, le-leb}
use Rattle.network.specs.Net.{Net, Walk, there, along, next, Kind, entrance, exit, mainline, merge, diverge}
use Rattle.network.specs.declared.layout.Layout.{Layout}
use Rattle.network.specs.Layouts.{drawn, Right}
use Rattle.network.proofs.Sorts.{in₁, off₁}

module _ (net : Net) (x : ℕ) where
  pub walk_none : {i n : ℕ} → Walk net x i n → (net.link i).to ≢ x → None ≡ next net i x → ⊥
  walk_none (there e l) ne f = ne e
  walk_none (along e w) ne f = let z : ◌≡◌ {A = ℕ} 0 1 = cc in omega arith

  pub walk_back : {i n : ℕ} (j : ℕ) → Walk net x i n → (net.link i).to ≢ x → Some j ≡ next net i x → (k : ℕ) × Walk net x j k
  walk_back j (there e l) ne f = absurd (ne e)
  walk_back j (along {j = q} {n = k} e w) ne f = let z : q ≡ j = cc in (k, subst (λ v. Walk net x v k) z w)

-- a number out of a range of nodes is none of them
pub past : (n most : ℕ) → false ≡ (leb 1 n && leb n most) → 1 ≤ n → n ≤ most → ⊥
past n most e a b = both_ways _ (sym e) (and_from _ _ (le-leb 1 n a) (le-leb n most b))

-- a node of a kind is one of the network's
pub no_kind : (l : Layout) → Right l → (n : ℕ) → (1 ≤ n → n ≤ l.nodes → ⊥) → Kind (drawn l) n → ⊥
no_kind l right n out (entrance j e f) = let z = off₁ (drawn l) n j [] f in let s = right.link j z.0 in out (omega (arith, z.1, s.from_node)) (omega (arith, z.1, s.upward, s.to_node))
no_kind l right n out (exit i e f) = let z = in₁ (drawn l) n i [] e in let s = right.link i z.0 in out (omega (arith, z.1, s.upward)) (omega (arith, z.1, s.to_node))
no_kind l right n out (mainline i j e f) = let z = in₁ (drawn l) n i [] e in let s = right.link i z.0 in out (omega (arith, z.1, s.upward)) (omega (arith, z.1, s.to_node))
no_kind l right n out (merge i i' j e f) = let z = in₁ (drawn l) n i (i' ∷ []) e in let s = right.link i z.0 in out (omega (arith, z.1, s.upward)) (omega (arith, z.1, s.to_node))
no_kind l right n out (diverge i j j' e f) = let z = in₁ (drawn l) n i [] e in let s = right.link i z.0 in out (omega (arith, z.1, s.upward)) (omega (arith, z.1, s.to_node))
