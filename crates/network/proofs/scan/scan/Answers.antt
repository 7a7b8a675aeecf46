use Rattle.std.proofs.Common.{ℕ, ◌+◌, nat_eq, sym, ◌∙◌, subst, arith}
use Rattle.std.proofs.lemmas.Bool.{eq-eqb, ne_eqb}
use Rattle.network.specs.Scans.{IsFew, end_of, link_in}
use Rattle.network.specs.Net.{places}
use Rattle.network.proofs.Counting.{few_most, few_more, few_same}
use Rattle.network.proofs.scan.scan.Goals as goal
use Rattle.network.proofs.scan.scan.Goals.{then-from-n, else-from-n}

pub and-few-requires : goal.and-few-requires
and-few-requires c = let h = few_most (λ i. nat_eq (end_of c.args.leaves (link_in c.args.links.now i)) c.args.n) c.loop-i.i c.loop-i.few c.loop-i.invariant in omega arith

pub loop-i-preserved : goal.loop-i-preserved
loop-i-preserved c =
    let p = λ (i : ℕ). nat_eq (end_of c.args.leaves (link_in c.args.links.now i)) c.args.n in
    let e = c.from.ensures ∙ c.end_of.ensures in
    elim c.if-from-n.branch [
      | then-from-n w ↦ subst (λ f. IsFew f (places p (c.loop-i.i + 1))) (sym (w.few-is ∙ w.and-few.ensures)) (few_more p c.loop-i.i c.loop-i.few (eq-eqb _ _ (sym e ∙ w.if-from-n.true)) c.loop-i.invariant)
      | else-from-n w ↦ subst (λ f. IsFew f (places p (c.loop-i.i + 1))) (sym w.few-is) (few_same p c.loop-i.i c.loop-i.few (ne_eqb _ _ (λ q. w.if-from-n.false (e ∙ q))) c.loop-i.invariant)
    ]
