use Rattle.std.proofs.Common.{ℕ, ◌+◌, ◌<◌, get_or, arith}
use Rattle.newell.specs.Now.{Passes}
use Rattle.network.specs.Nets.{net_of}
use Rattle.network.proofs.Rights.{right_of}
use Rattle.plan.specs.View.{view_of}
use Rattle.plan.specs.Plans.{AskedBelow}
use Rattle.plan.proofs.Planning.{below_none, passes_zero, below_again, passes_again, asked_all, passes_all}
use Rattle.plan.proofs.nodes.plan.Given.{Over}
use Rattle.plan.proofs.nodes.plan.Goals as goal
use Rattle.plan.proofs.nodes.plan.Goals.{After-plan_node}

pub loop-n-init : goal.loop-n-init
loop-n-init g c =
    let net = net_of c.args.net.now in
    let r = view_of c.args.yard.now c.args.clock in
    let m = g.R.MergeRule.meaning c.args.rule.now in
    let w = right_of c.args.net.now in (
      passes_zero net r m (λ i. get_or c.args.outs.now i 0) (λ i h. omega (arith, (w.link i h).upward)),
      below_none net r m (λ i h. omega (arith, (w.link i h).upward)),
    )

-- the node n is planned too
planned : (g : Over) (c : After-plan_node g)
    → ((k : ℕ) → k < c.loop-n.n + 1 → Passes (net_of c.args.net.now) (view_of c.args.yard.now c.args.clock) (g.R.MergeRule.meaning c.args.rule.now) (λ i. get_or c.plan_node.new.outs i 0) k)
    × AskedBelow (net_of c.args.net.now) (view_of c.args.yard.now c.args.clock) (c.loop-n.n + 1) (g.R.MergeRule.meaning c.args.rule.now) (g.R.MergeRule.meaning c.plan_node.new.rule)
planned g c =
    let net = net_of c.args.net.now in
    let r = view_of c.args.yard.now c.args.clock in
    let m = g.R.MergeRule.meaning c.args.rule.now in
    let m₁ = g.R.MergeRule.meaning c.loop-n.rule in
    let v = c.loop-n.invariant in (
      passes_again net r m m₁ c.loop-n.n v.1 (λ i. get_or c.loop-n.outs i 0) (λ i. get_or c.plan_node.new.outs i 0) c.plan_node.ensures.others v.0 c.plan_node.ensures.passes,
      below_again net r m m₁ c.loop-n.n v.1 (g.R.MergeRule.meaning c.plan_node.new.rule) c.plan_node.ensures.asked,
    )

pub loop-n-preserved : goal.loop-n-preserved
loop-n-preserved g c = planned g (goal.at.loop-n-preserved g c).After-plan_node

pub returns : goal.returns
returns g c =
    let net = net_of c.args.net.now in
    let r = view_of c.args.yard.now c.args.clock in
    let m = g.R.MergeRule.meaning c.args.rule.now in
    let v = c.loop-n.invariant in
    let w = right_of c.args.net.now in
    record {
      passes = passes_all net r m (λ i. get_or c.loop-n.outs i 0) c.loop-n.n (λ i h. omega (arith, (w.link i h).to_node)) v.0;
      asked = asked_all net r m (g.R.MergeRule.meaning c.loop-n.rule) c.loop-n.n (λ i h. omega (arith, (w.link i h).to_node)) v.1;
    }

pub returns-2 : goal.returns-2
returns-2 g c =
    let net = net_of c.args.net.now in
    let r = view_of c.args.yard.now c.args.clock in
    let m = g.R.MergeRule.meaning c.args.rule.now in
    let v = planned g (goal.at.returns-2 g c).After-plan_node in
    let w = right_of c.args.net.now in
    record {
      passes = passes_all net r m (λ i. get_or c.plan_node.new.outs i 0) (c.loop-n.n + 1) (λ i h. omega (arith, (w.link i h).to_node)) v.0;
      asked = asked_all net r m (g.R.MergeRule.meaning c.plan_node.new.rule) (c.loop-n.n + 1) (λ i h. omega (arith, (w.link i h).to_node)) v.1;
    }
