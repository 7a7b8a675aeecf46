use Rattle.std.proofs.Common.{ℕ, rules, ◌<◌, [], ◌∷◌, length, get_or, set, sym, ap, ◌∙◌, subst, arith}
use Rattle.newell.specs.Plain.{Greatest}
use Rattle.newell.specs.Now.{Fit}
use Rattle.network.specs.Nets.{net_of}
use Rattle.network.proofs.Rights.{right_of}
use Rattle.network.proofs.Sorts.{in₁, in₂}
use Rattle.plan.specs.View.{view_of}
use Rattle.plan.proofs.Planning.{passes_exit, passes_mainline, passes_merge, passes_diverge, asked_one, asked_merge, put_same, put_other, put_first, put_second}
use Rattle.plan.proofs.scene.Scene.plan_node.Goals as goal

pub returns-in-Exit : goal.returns-in-Exit
returns-in-Exit g c =
    let net = net_of c.args.self.now.net.now in
    let r = view_of c.args.self.now.yard.now c.args.self.now.clock in
    let m = g.R.MergeRule.meaning c.args.rule.now in
    let n = c.args.n in
    let i = c.in-Exit.from in
    let k = c.in-Exit.ensures.is in
    let o = c.args.outs.now in
    let l : i < length o = omega (arith, c.in-Exit.ensures.inside, c.requires.outs) in
    record {
      passes = passes_exit net r m _ n i k.0 k.1 (search (rules, put_same, l));
      others = put_other net n o i _ (in₁ net n i [] k.0).1;
      asked = asked_one net r n m i k.0;
    }

pub returns-in-Mainline : goal.returns-in-Mainline
returns-in-Mainline g c =
    let net = net_of c.args.self.now.net.now in
    let r = view_of c.args.self.now.yard.now c.args.self.now.clock in
    let m = g.R.MergeRule.meaning c.args.rule.now in
    let n = c.args.n in
    let i = c.in-Mainline.from in
    let k = c.in-Mainline.ensures.is in
    let l : i < length c.args.outs.now = omega (arith, c.in-Mainline.ensures.inside.0, c.requires.outs) in
    let x = c.min.result in
    record {
      passes = passes_mainline net r m (λ q. get_or (set c.args.outs.now i x) q 0) n i c.in-Mainline.to k.0 k.1 (put_same c.args.outs.now i x l ∙ omega (arith, c.min.ensures, c.sends-in-Mainline.ensures, c.takes.ensures));
      others = put_other net n c.args.outs.now i x (in₁ net n i [] k.0).1;
      asked = asked_one net r n m i k.0;
    }

pub returns-in-Merge : goal.returns-in-Merge
returns-in-Merge g c =
    let net = net_of c.args.self.now.net.now in
    let r = view_of c.args.self.now.yard.now c.args.self.now.clock in
    let m = g.R.MergeRule.meaning c.args.rule.now in
    let n = c.args.n in
    let i = c.in-Merge.first in
    let i' = c.in-Merge.second in
    let j = c.in-Merge.to in
    let k = c.in-Merge.ensures.is in
    let o = c.args.outs.now in
    let a = c.split-a.result.0 in
    let b = c.split-a.result.1 in
    let l : i < length o = omega (arith, c.in-Merge.ensures.inside.0, c.requires.outs) in
    let l' : i' < length o = omega (arith, c.in-Merge.ensures.inside.1, c.requires.outs) in
    record {
      passes = passes_merge net r m (λ q. get_or (set (set o i a) i' b) q 0) n i i' j k.0 k.1
          (put_first net n o i i' a b k.0 l ∙ ap (λ (p : ℕ × ℕ). p.0) (rw c.question-question.ensures at c.split-a.ensures.answers))
          (put_second o i i' a b l' ∙ ap (λ (p : ℕ × ℕ). p.1) (rw c.question-question.ensures at c.split-a.ensures.answers));
      others = λ q ne. put_other net n (set o i a) i' b (in₂ net n i i' [] k.0).1 q ne ∙ put_other net n o i a (in₁ net n i (i' ∷ []) k.0).1 q ne;
      asked = asked_merge net r n m i i' j _ k.0 k.1 (rw c.question-question.ensures at c.split-a.ensures.leaves);
    }

pub returns-in-Diverge : goal.returns-in-Diverge
returns-in-Diverge g c =
    let net = net_of c.args.self.now.net.now in
    let r = view_of c.args.self.now.yard.now c.args.self.now.clock in
    let m = g.R.MergeRule.meaning c.args.rule.now in
    let n = c.args.n in
    let i = c.in-Diverge.from in
    let k = c.in-Diverge.ensures.is in
    let o = c.args.outs.now in
    let x = c.prefix.result in
    let l : i < length o = omega (arith, c.in-Diverge.ensures.inside.0, c.requires.outs) in
    record {
      passes = passes_diverge net r m (λ q. get_or (set o i x) q 0) n i c.in-Diverge.first c.in-Diverge.second k.0 k.1
          (subst (Greatest (Fit net r i c.in-Diverge.first c.in-Diverge.second)) (sym (put_same o i x l)) (c.prefix.ensures c.args.self.now.clock));
      others = put_other net n o i x (in₁ net n i [] k.0).1;
      asked = asked_one net r n m i k.0;
    }

pub overflow_cast-n : goal.overflow_cast-n
overflow_cast-n g c = omega (arith, c.requires.most, (right_of c.args.self.now.net.now).nodes)
