use Rattle.std.proofs.Common.{ℕ, ◌-◌, ◌<◌}
use Rattle.network.specs.Net.{Walk}
use Rattle.network.specs.Nets.{net_of}
use Rattle.network.proofs.network.Network.served.Given as goal

abbrev pub invariant-loop-first : goal.invariant-loop-first
invariant-loop-first l =
    (l.i < (net_of l.self).links)
    × ((n : ℕ) → Walk (net_of l.self) l.x l.i n → (k : ℕ) × Walk (net_of l.self) l.x l.first k)
    × ((n : ℕ) → Walk (net_of l.self) l.x l.first n → (k : ℕ) × Walk (net_of l.self) l.x l.i k)

abbrev pub decreases-loop-first : goal.decreases-loop-first
decreases-loop-first l = 33 - ((net_of l.self).link l.i).to
