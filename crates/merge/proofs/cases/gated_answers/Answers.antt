use Rattle.std.proofs.Common.{ap, ◌∙◌}
use Rattle.merge.specs.Sharing.{fair_meaning}
use Rattle.merge.specs.Metering.{gates_of}
use Rattle.merge.specs.Meters.{gated}
use Rattle.merge.proofs.cases.gated_answers.Goals as goal

pub returns : goal.returns
returns c = c.split.ensures.answers
    ∙ gated _ _ _ fair_meaning c.args.node c.args.gate c.args.q
    (ap gates_of c.over-rule.ensures.held ∙ c.put.ensures.holds) c.none-gates.ensures
