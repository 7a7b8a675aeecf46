use Rattle.std.proofs.Common.{sym, refl, ap, ◌∙◌}
use Rattle.reader.specs.Files.{numbers_of}
use Rattle.reader.proofs.Taking.{meters_put, none_there}
use Rattle.reader.proofs.take.add_meter.Goals as goal

pub returns : goal.returns
returns c =
    let gate = c.in-Some.ensures in (
      ap numbers_of (sym c.gate.ensures) ∙ none_there c.gate.result (sym c.if-is_some.ensures),
      c.if-not-is_merge.ensures.0 refl,
      meters_put c.args.gates.now c.put.new.self c.args.node c.args.rate c.args.period c.in-Some.gate c.requires.node.0 c.requires.node.1 c.put.ensures.holds gate.1 gate.2,
    )
