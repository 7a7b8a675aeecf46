use Rattle.std.proofs.Common.{◌≡◌, ℕ, ◌-◌, length, None}
use Rattle.network.specs.Nets.{net_of}
use Rattle.merge.specs.declared.choice.Choice.{Choice}
use Rattle.rows.specs.declared.kind.Stage.TheVariants.{Meters}
use Rattle.reader.specs.Heads.{Got, said, meters_of}
use Rattle.reader.proofs.head.read_meters.Given as goal

abbrev pub invariant-loop-node : goal.invariant-loop-node
invariant-loop-node l =
    (l.reader.file.now ≡ l.initial.reader.file.now)
    × ((l₀ p₀ : ℕ) (rule : Choice) → Got l.initial.reader.file.now l₀ p₀ l.initial.reader.at.line l.initial.reader.at.place Meters l.counts.nodes l.counts.links (said (net_of l.network) rule (λ n. None)) → Got l.initial.reader.file.now l₀ p₀ l.reader.at.line l.reader.at.place Meters l.counts.nodes l.counts.links (said (net_of l.network) rule (meters_of l.gates)))

abbrev pub decreases-loop-node : goal.decreases-loop-node
decreases-loop-node l = length l.initial.reader.file.now - l.reader.at.place
