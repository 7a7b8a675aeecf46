-- The link after a link leaves the node where that ends.
use Rattle.std.proofs.Common.{◌≡◌, ℕ, ◌<◌, ◌≢◌, List, [], ◌∷◌, Some, sym, refl, ap, ◌∙◌, subst, inl, arith}
use Rattle.network.specs.Net.{leaving, onward, next}
use Rattle.network.proofs.Places.{In, left_from}
use Rattle.network.specs.declared.layout.Layout.{Layout}
use Rattle.network.specs.Layouts.{drawn, link_of, route_at, Right}

module _ (n : Layout) (right : Right n) (i : ℕ) (h : i < n.count) where
  pub next_in : (x j : ℕ) → next (drawn n) i x ≡ Some j → (j < n.count) × ((link_of n j).from ≡ (link_of n i).to)
  next_in x j e = go (leaving (drawn n) (link_of n i).to) refl e
    where
      go : (ls : List ℕ) → leaving (drawn n) (link_of n i).to ≡ ls → onward ls (route_at n (link_of n i).to x) ≡ Some j → (j < n.count) × ((link_of n j).from ≡ (link_of n i).to)
      go [] q e = let z : ◌≡◌ {A = ℕ} 0 1 = cc in absurd (omega arith)
      go (a ∷ []) q e = let z : j ≡ a = cc in left_from (drawn n) (link_of n i).to j (subst (In j) (sym q) (inl z))
      go (a ∷ b ∷ ls) q e = let w = right.rows (link_of n i).to x j e in (w.here, w.leaves)

  pub next_other : (x j : ℕ) → next (drawn n) i x ≡ Some j → j ≢ i
  next_other x j e q =
      let a = (next_in x j e).1 in
      let b : (link_of n i).from ≡ (link_of n i).to = ap (λ k. (link_of n k).from) (sym q) ∙ a in
      omega (arith, b, (right.link i h).upward)

  pub next_self : (x : ℕ) → next (drawn n) i x ≡ Some i → ⊥
  next_self x e = next_other x i e refl
