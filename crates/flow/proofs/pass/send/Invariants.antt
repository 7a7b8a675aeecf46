use Rattle.std.proofs.Common.{take}
use Rattle.network.specs.Nets.{net_of}
use Rattle.links.specs.Yards.{holds}
use Rattle.flow.specs.Flows.{Sent}
use Rattle.flow.proofs.pass.send.Given as goal

abbrev pub invariant-loop : goal.invariant-loop
invariant-loop l = Sent (net_of l.net) l.t.clock l.i (take l.counter (holds l.initial.yard l.i)) l.initial.yard l.yard
