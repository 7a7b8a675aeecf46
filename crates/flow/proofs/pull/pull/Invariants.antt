use Rattle.std.proofs.Common.{◌+◌, take}
use Rattle.links.specs.Yards.{holds}
use Rattle.flow.specs.Flows.{Pulled}
use Rattle.flow.proofs.pull.pull.Given as goal

abbrev pub invariant-loop : goal.invariant-loop
invariant-loop l = Pulled l.t.clock l.j (take l.counter (holds l.initial.yard (48 + l.j))) l.initial.yard l.yard
