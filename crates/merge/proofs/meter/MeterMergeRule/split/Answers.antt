use Rattle.merge.specs.Metering.{gates_of}
use Rattle.merge.specs.Meters.{metered_leaves}
use Rattle.merge.proofs.meter.MeterMergeRule.split.Goals as goal

pub returns-clause-leaves : goal.returns-clause-leaves
returns-clause-leaves g c =
    metered_leaves (gates_of c.args.self.now.gates) (g.R.MergeRule.meaning c.args.self.now.below) _ c.args.node c.args.q _ c.passed_on-passed.ensures c.split.ensures.leaves
