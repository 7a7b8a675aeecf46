-- Readings and rows, link by link.
use Rattle.std.proofs.Common.{◌≡◌, ℕ, ◌+◌, ◌<◌, ◌≢◌, List, length, get_or, set, None, Option, sym, ◌∙◌, subst, ⊎_elim, arith}
use Rattle.std.proofs.lemmas.Bool.{cases_eq}
use Rattle.std.proofs.lemmas.List.{get_or-set_same, get_or-set_other}
use Rattle.newell.specs.declared.records.StepRow.{StepRow}
use Rattle.links.specs.declared.records.Yard.{Yard}
use Rattle.links.specs.Tables.{Gauge}
use Rattle.links.specs.Yards.{holds, gauge_of}
use Rattle.links.proofs.Spacing.{beyond_more}
use Rattle.step.specs.Notes.{Written, Still}

pub still_more : (y y' y'' : Yard) → Still y y' → Still y' y'' → Still y y''
still_more y y' y'' a b = record {
  lanes = λ l. b.lanes l ∙ a.lanes l;
  holds = λ l. b.holds l ∙ a.holds l;
  spots = λ l. b.spots l ∙ a.spots l;
  beyond = beyond_more y y' y'' a.beyond b.beyond;
  sizes = λ l. b.sizes l ∙ a.sizes l;
  laid = λ h. b.laid (a.laid h);
  area = b.area ∙ a.area;
  same = b.same ∙ a.same;
}

module _ (y₀ y y' : Yard) (i : ℕ) (outs : List ℕ) (times : List (Option ℕ)) (rows : List StepRow) (row : StepRow) (count : ℕ) where
  abbrev At : Yard → List StepRow → ℕ → Type 0
  At z rs k = (d : StepRow) → Written (gauge_of y₀ k) (get_or outs k 0) (length (holds y₀ k)) (get_or times k None) (get_or rs k d) (gauge_of z k)

  pub note_more : i < length rows → count ≡ length (holds y₀ i) → gauge_of y i ≡ gauge_of y₀ i
      → Written (gauge_of y i) (get_or outs i 0) count (get_or times i None) row (gauge_of y' i)
      → ((k : ℕ) → k ≢ i → gauge_of y' k ≡ gauge_of y k)
      → ((k : ℕ) → k < i → At y rows k) → (k : ℕ) → k < i + 1 → At y' (set rows i row) k
  note_more l c g w o old k h d = ⊎_elim
      (λ (e : k ≡ i). subst (λ q. Written (gauge_of y₀ q) (get_or outs q 0) (length (holds y₀ q)) (get_or times q None) (get_or (set rows i row) q d) (gauge_of y' q)) (sym e) here)
      (λ ne. subst (λ (r : StepRow). Written (gauge_of y₀ k) (get_or outs k 0) (length (holds y₀ k)) (get_or times k None) r (gauge_of y' k)) (sym (get_or-set_other rows i k row d ne))
      (subst (λ (b : Gauge). Written (gauge_of y₀ k) (get_or outs k 0) (length (holds y₀ k)) (get_or times k None) (get_or rows k d) b) (sym (o k ne)) (old k (omega (arith, ne)) d)))
      (cases_eq k i)
    where
      here : Written (gauge_of y₀ i) (get_or outs i 0) (length (holds y₀ i)) (get_or times i None) (get_or (set rows i row) i d) (gauge_of y' i)
      here = subst (λ (r : StepRow). Written (gauge_of y₀ i) (get_or outs i 0) (length (holds y₀ i)) (get_or times i None) r (gauge_of y' i)) (sym (get_or-set_same rows i row d l))
          (subst (λ n. Written (gauge_of y₀ i) (get_or outs i 0) n (get_or times i None) row (gauge_of y' i)) c
          (subst (λ (a : Gauge). Written a (get_or outs i 0) count (get_or times i None) row (gauge_of y' i)) g w))
