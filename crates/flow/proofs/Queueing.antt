-- Those that are booked.
use Rattle.std.proofs.Common.{◌≡◌, ℕ, zero, suc, ◌+◌, [], ◌∷◌, ◌++◌, replicate, sym, refl, ap, ◌∙◌, append_assoc, append-nil, add-one}
use Rattle.newell.specs.declared.records.Vehicle.{Vehicle}
use Rattle.links.specs.declared.records.Yard.{Yard}
use Rattle.line.specs.Spots.{wrote, written}
use Rattle.line.proofs.Writing.{written_append}
use Rattle.links.specs.Yards.{holds, spots_of, Put}
use Rattle.links.proofs.Keeping.{laid_of}
use Rattle.links.proofs.Spacing.{beyond_none, beyond_more}

snoc : (n : ℕ) (v : Vehicle) → replicate n v ++ v ∷ [] ≡ replicate (suc n) v
snoc zero v = refl
snoc (suc n) v = ap (λ vs. v ∷ vs) (snoc n v)

module _ (k : ℕ) (v : Vehicle) where
  one_more : (m : ℕ) → replicate m v ++ v ∷ [] ≡ replicate (m + 1) v
  one_more m = snoc m v ∙ ap (λ q. replicate q v) (sym (add-one m))

  pub put_none : (y : Yard) → Put y y k (holds y k ++ replicate 0 v)
  put_none y = record {
    here = sym (append-nil (holds y k));
    others = λ l h ne. refl;
    spots = λ l h ne. refl;
    beyond = beyond_none y;
    sizes = λ l. refl;
    gauges = λ l. refl;
    laid = laid_of y;
    same = refl;
  }

  module _ (y y₁ : Yard) (m : ℕ) (s : Put y y₁ k (holds y k ++ replicate m v)) where
    pub put_more : (y₂ : Yard) → Put y₁ y₂ k (holds y₁ k ++ v ∷ []) → Put y y₂ k (holds y k ++ replicate (m + 1) v)
    put_more y₂ p = record {
      here = p.here ∙ ap (λ vs. vs ++ v ∷ []) s.here ∙ append_assoc (holds y k) (replicate m v) (v ∷ []) ∙ ap (λ vs. holds y k ++ vs) (one_more m);
      others = λ l h ne. p.others l h ne ∙ s.others l h ne;
      spots = λ l h ne. p.spots l h ne ∙ s.spots l h ne;
      beyond = beyond_more y y₁ y₂ s.beyond p.beyond;
      sizes = λ l. p.sizes l ∙ s.sizes l;
      gauges = λ l. p.gauges l ∙ s.gauges l;
      laid = p.laid;
      same = p.same ∙ s.same;
    }

    pub spots_more : (y₂ : Yard) → spots_of y₁ k ≡ written (spots_of y k) (replicate m v) → spots_of y₂ k ≡ wrote (spots_of y₁ k) v → spots_of y₂ k ≡ written (spots_of y k) (replicate (m + 1) v)
    spots_more y₂ a w = w ∙ ap (λ z. wrote z v) a ∙ written_append (spots_of y k) (replicate m v) (v ∷ []) ∙ ap (written (spots_of y k)) (one_more m)
