-- The area outside the lanes, and the whole of it.
use Rattle.std.proofs.Common.{◌≡◌, ℕ, zero, suc, ◌+◌, ◌-◌, ◌<◌, ◌≤◌, ◌≢◌, ◌⊎◌, get_or, sym, refl, ap, ◌∙◌, subst, ap₂, inl, inr, ⊎_elim, arith}
use Rattle.std.proofs.lemmas.List.Edits.{get_or-between}
use Rattle.std.proofs.lemmas.List.{same_lists}
use Rattle.std.proofs.lemmas.Bool.{cases_eq, cases_lt}
use Rattle.line.specs.Spots.{Spots}
use Rattle.newell.specs.declared.records.Vehicle.{Vehicle}
use Rattle.links.specs.declared.records.Yard.{Yard}
use Rattle.links.specs.Tables.{lane_count}
use Rattle.links.specs.Yards.{start_of, size_of, spots_of, Beyond}

pub beyond_none : (y : Yard) → Beyond y y
beyond_none y = record { starts = λ l. refl; sizes = λ l. refl; wide = refl; outside = λ q d f. refl }

pub beyond_more : (y y₁ y₂ : Yard) → Beyond y y₁ → Beyond y₁ y₂ → Beyond y y₂
beyond_more y y₁ y₂ a b = record {
  starts = λ l. b.starts l ∙ a.starts l;
  sizes = λ l. b.sizes l ∙ a.sizes l;
  wide = b.wide ∙ a.wide;
  outside = λ q d f. b.outside q d (λ l h. moved l q (f l h)) ∙ a.outside q d f;
}
  where
    moved : (l q : ℕ) → (q < start_of y l) ⊎ (start_of y l + size_of y l ≤ q) → (q < start_of y₁ l) ⊎ (start_of y₁ l + size_of y₁ l ≤ q)
    moved l q (inl h) = inl (omega (arith, h, a.starts l))
    moved l q (inr h) = inr (omega (arith, h, a.starts l, a.sizes l))

-- Spots and what lies outside the lanes are all of the area: two yards that agree in them agree in the area.
within : (y : Yard) (q n : ℕ) → ((l : ℕ) × (l < n) × (start_of y l ≤ q) × (q < start_of y l + size_of y l)) ⊎ ((l : ℕ) → l < n → (q < start_of y l) ⊎ (start_of y l + size_of y l ≤ q))
within y q zero = inr (λ l h. absurd (omega arith))
within y q (suc n) = ⊎_elim
    (λ f. inl (f.0, omega (arith, f.1), f.2, f.3))
    (λ f. ⊎_elim
    (λ (a : q < start_of y n). inr (below f (inl a)))
    (λ (a : start_of y n ≤ q). ⊎_elim (λ (b : q < start_of y n + size_of y n). inl (n, omega arith, a, b)) (λ (b : start_of y n + size_of y n ≤ q). inr (below f (inr b))) (cases_lt q (start_of y n + size_of y n)))
    (cases_lt q (start_of y n)))
    (within y q n)
  where
    below : ((l : ℕ) → l < n → (q < start_of y l) ⊎ (start_of y l + size_of y l ≤ q)) → (q < start_of y n) ⊎ (start_of y n + size_of y n ≤ q) → (l : ℕ) → l < suc n → (q < start_of y l) ⊎ (start_of y l + size_of y l ≤ q)
    below f g l h = ⊎_elim (λ (e : l ≡ n). subst (λ k. (q < start_of y k) ⊎ (start_of y k + size_of y k ≤ q)) (sym e) g) (λ (ne : l ≢ n). f l (omega (arith, ne))) (cases_eq l n)

spot_at : (y : Yard) (l q : ℕ) (d : Vehicle) → start_of y l ≤ q → q < start_of y l + size_of y l → get_or y.area.now q d ≡ get_or (spots_of y l).slots (q - start_of y l) d
unfolding start_of size_of spots_of
spot_at y l q d a b =
    let e : start_of y l + (q - start_of y l) ≡ q = omega arith in
    sym (get_or-between y.area.now (start_of y l) (start_of y l + size_of y l) (q - start_of y l) d (omega arith) ∙ ap (λ k. get_or y.area.now k d) e)

pub areas_agree : (y y₁ y₂ : Yard) → Beyond y y₁ → Beyond y y₂ → ((k : ℕ) → k < lane_count → spots_of y₁ k ≡ spots_of y₂ k) → y₁.area.now ≡ y₂.area.now
areas_agree y y₁ y₂ a b s = same_lists y₁.area.now y₂.area.now (a.wide ∙ sym b.wide) (λ q d h. ⊎_elim
    (λ f.
    let l = f.0 in
    spot_at y₁ l q d (omega (arith, f.2, a.starts l)) (omega (arith, f.3, a.starts l, a.sizes l))
    ∙ ap₂ (λ (z : Spots Vehicle) n. get_or z.slots (q - n) d) (s l f.1) (a.starts l ∙ sym (b.starts l))
    ∙ sym (spot_at y₂ l q d (omega (arith, f.2, b.starts l)) (omega (arith, f.3, b.starts l, b.sizes l))))
    (λ f. a.outside q d f ∙ sym (b.outside q d f))
    (within y q lane_count))
