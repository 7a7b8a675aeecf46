use Rattle.std.proofs.Common.{inl, inr, sym, ◌∙◌, ⊎_elim, arith, eq-eqb}
use Rattle.std.proofs.lemmas.Bool.{both_ways, eqb-true}
use Rattle.words.proofs.Cuts.{Ends, empty_blank, blank_empty}
use Rattle.words.proofs.line.Line.is_empty_at.Goals as goal
use Rattle.words.proofs.line.Line.is_empty_at.Goals.{then-i-end, else-i-end}

pub returns-else-i-from : goal.returns-else-i-from
returns-else-i-from c =
    let file = c.args.self.now.file.now in
    let ends : Ends file c.args.self.now.end c.args.i = elim c.if-i-end.branch [
      | then-i-end w ↦ inl w.if-i-end.true
      | else-i-end w ↦ inr (eqb-true _ _ (sym w.ends-is ∙ c.if-ends.true))
    ] in (
      λ v. blank_empty file c.args.self.now.from c.args.self.now.end c.args.i (omega arith) c.args.self.now.within c.args.self.now.whole c.requires.1 (inr (omega arith, eqb-true _ _ v)) ends,
      λ h. ⊎_elim (λ z. absurd (c.if-i-from.false z)) (λ x. eq-eqb _ _ x.1)
          (empty_blank file c.args.self.now.from c.args.self.now.end c.args.i (omega arith) c.args.self.now.within c.args.self.now.whole h).1,
    )

pub returns-else-ends : goal.returns-else-ends
returns-else-ends c =
    let file = c.args.self.now.file.now in (
      λ v. absurd (both_ways _ c.if-ends.false v),
      λ h.
          let blank = empty_blank file c.args.self.now.from c.args.self.now.end c.args.i (omega arith) c.args.self.now.within c.args.self.now.whole h in
          elim c.if-i-end.branch [
            | then-i-end w ↦ w.ends-is ∙ eq-eqb _ _ w.if-i-end.true
            | else-i-end w ↦ w.ends-is ∙ eq-eqb _ _ (⊎_elim (λ z. absurd (w.if-i-end.false z)) (λ x. x) blank.2)
          ],
    )
