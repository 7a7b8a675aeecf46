use Rattle.std.proofs.Common.{ℕ, ◌<◌, get_or}
use Rattle.newell.specs.Now.{Passes}
use Rattle.network.specs.Nets.{net_of}
use Rattle.plan.specs.View.{view_of}
use Rattle.plan.specs.Plans.{AskedBelow}
use Rattle.plan.proofs.nodes.plan.Given as goal

abbrev pub invariant-loop-n : goal.invariant-loop-n
invariant-loop-n g l =
    ((k : ℕ) → k < l.n → Passes (net_of l.net) (view_of l.fn.yard l.clock) (g.R.MergeRule.meaning l.initial.rule) (λ i. get_or l.outs i 0) k)
    × AskedBelow (net_of l.net) (view_of l.fn.yard l.clock) l.n (g.R.MergeRule.meaning l.initial.rule) (g.R.MergeRule.meaning l.rule)
