use Rattle.std.proofs.Common.{◌≡◌, ℕ, ◌<◌, get_or}
use Rattle.network.specs.Nets.{net_of}
use Rattle.plan.specs.View.{takes_in}
use Rattle.plan.proofs.caps.take_caps.Given as goal

abbrev pub invariant-loop-i : goal.invariant-loop-i
invariant-loop-i l = (k : ℕ) → k < l.i → get_or l.take-items k 0 ≡ takes_in (net_of l.net) l.table k
