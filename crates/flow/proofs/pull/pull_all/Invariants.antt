use Rattle.std.proofs.Common.{get_or}
use Rattle.flow.specs.Flows.{PulledAll}
use Rattle.flow.proofs.pull.pull_all.Given as goal

abbrev pub invariant-loop-j : goal.invariant-loop-j
invariant-loop-j l = PulledAll l.t.clock (λ j. get_or l.takes j 0) l.j l.initial.yard l.yard
