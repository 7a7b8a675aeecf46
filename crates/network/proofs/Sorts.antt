-- The links that a kind names, and nodes with two that enter.
use Rattle.std.proofs.Common.{◌≡◌, ℕ, zero, suc, ◌<◌, Bool, true, false, cond, List, [], ◌∷◌, ◌++◌, sym, refl, ap, ◌∙◌, subst, inl, inr, append-nil, arith}
use Rattle.network.specs.Net.{Net, places, entering, leaving}
use Rattle.network.proofs.Places.{In, entered, left_from, from_places}
use Rattle.network.specs.declared.kind.NodeKind.{NodeKind}
use Rattle.network.specs.declared.kind.NodeKind.TheVariants.{Entrance, Exit, Mainline, Merge, Diverge}
use Rattle.network.specs.declared.layout.Layout.{Layout}
use Rattle.network.specs.Layouts.{drawn, IsKind, Inside}

module _ (net : Net) (n : ℕ) where
  pub in₁ : (i : ℕ) (is : List ℕ) → entering net n ≡ i ∷ is → (i < net.links) × ((net.link i).to ≡ n)
  in₁ i is e = entered net n i (subst (In i) (sym e) (inl refl))

  pub in₂ : (i i' : ℕ) (is : List ℕ) → entering net n ≡ i ∷ i' ∷ is → (i' < net.links) × ((net.link i').to ≡ n)
  in₂ i i' is e = entered net n i' (subst (In i') (sym e) (inr (inl refl)))

  pub off₁ : (j : ℕ) (js : List ℕ) → leaving net n ≡ j ∷ js → (j < net.links) × ((net.link j).from ≡ n)
  off₁ j js e = left_from net n j (subst (In j) (sym e) (inl refl))

  pub off₂ : (j j' : ℕ) (js : List ℕ) → leaving net n ≡ j ∷ j' ∷ js → (j' < net.links) × ((net.link j').from ≡ n)
  off₂ j j' js e = left_from net n j' (subst (In j') (sym e) (inr (inl refl)))

pub kind_inside : (n : Layout) (k : ℕ) (x : NodeKind) → IsKind (drawn n) k x → Inside n.count x
kind_inside n k (Entrance j) h = (off₁ (drawn n) k j [] h.1).0
kind_inside n k (Exit i) h = (in₁ (drawn n) k i [] h.0).0
kind_inside n k (Mainline i j) h = ((in₁ (drawn n) k i [] h.0).0, (off₁ (drawn n) k j [] h.1).0)
kind_inside n k (Merge i i' j) h = ((in₁ (drawn n) k i (i' ∷ []) h.0).0, (in₂ (drawn n) k i i' [] h.0).0, (off₁ (drawn n) k j [] h.1).0)
kind_inside n k (Diverge i j j') h = ((in₁ (drawn n) k i [] h.0).0, (off₁ (drawn n) k j (j' ∷ []) h.1).0, (off₂ (drawn n) k j j' [] h.1).0)

-- places come in order
ends : (xs : List ℕ) (n i i' : ℕ) → xs ++ n ∷ [] ≡ i ∷ i' ∷ [] → (xs ≡ i ∷ []) × (n ≡ i')
ends [] n i i' e = let z : ◌≡◌ {A = List ℕ} [] (i' ∷ []) = cc in let w : ◌≡◌ {A = ℕ} 0 1 = cc in absurd (omega arith)
ends (x ∷ []) n i i' e = let z : x ≡ i = cc in let w : n ≡ i' = cc in (ap (λ y. y ∷ []) z, w)
ends (x ∷ y ∷ []) n i i' e = let z : ◌≡◌ {A = List ℕ} (n ∷ []) [] = cc in let w : ◌≡◌ {A = ℕ} 0 1 = cc in absurd (omega arith)
ends (x ∷ y ∷ w ∷ ws) n i i' e = let z : ◌≡◌ {A = List ℕ} (w ∷ (ws ++ n ∷ [])) [] = cc in let v : ◌≡◌ {A = ℕ} 0 1 = cc in absurd (omega arith)

pub two_rise : (p : ℕ → Bool) (n i i' : ℕ) → places p n ≡ i ∷ i' ∷ [] → i < i'
two_rise p zero i i' e = let w : ◌≡◌ {A = ℕ} 0 1 = cc in absurd (omega arith)
two_rise p (suc n) i i' e = go (p n) e (two_rise p n i i')
  where
    go : (b : Bool) → places p n ++ cond b (n ∷ []) [] ≡ i ∷ i' ∷ [] → (places p n ≡ i ∷ i' ∷ [] → i < i') → i < i'
    go true e rec = let z = ends (places p n) n i i' e in
        let l = (from_places p n i (subst (In i) (sym z.0) (inl refl))).0 in
        omega (arith, l, z.1)
    go false e rec = rec (sym (append-nil (places p n)) ∙ e)
