use Rattle.std.proofs.Common.{◌≡◌, ℕ, ◌<◌, get_or, take, None}
use Rattle.newell.specs.History.{final}
use Rattle.network.specs.Nets.{net_of}
use Rattle.links.specs.Yards.{holds}
use Rattle.flow.specs.Flows.{SentAll, lasted}
use Rattle.flow.proofs.all.send_all.Given as goal

abbrev pub invariant-loop-i : goal.invariant-loop-i
invariant-loop-i l =
    SentAll (net_of l.net) l.t.clock (λ i. get_or l.outs i 0) l.i l.initial.yard l.yard
    × ((i : ℕ) → i < l.i → get_or l.time-items i None ≡ lasted l.t.clock (final (take (get_or l.outs i 0) (holds l.initial.yard i))))
