use Rattle.std.proofs.Common.{◌≡◌, ℕ, ◌-◌, length}
use Rattle.network.specs.Nets.{net_of}
use Rattle.rows.specs.declared.kind.Stage.TheVariants.{Routes}
use Rattle.reader.specs.Heads.{Got, bare}
use Rattle.reader.proofs.head.read_routes.Given as goal

abbrev pub invariant-loop-node : goal.invariant-loop-node
invariant-loop-node l =
    (l.reader.file.now ≡ l.initial.reader.file.now)
    × ((l₀ p₀ : ℕ) → Got l.initial.reader.file.now l₀ p₀ l.initial.reader.at.line l.initial.reader.at.place Routes l.counts.nodes l.counts.links (bare (net_of l.initial.grown)) → Got l.initial.reader.file.now l₀ p₀ l.reader.at.line l.reader.at.place Routes l.counts.nodes l.counts.links (bare (net_of l.grown)))

abbrev pub decreases-loop-node : goal.decreases-loop-node
decreases-loop-node l = length l.initial.reader.file.now - l.reader.at.place
