use Rattle.std.proofs.Common.{◌≡◌, length}
use Rattle.network.specs.Layouts.{drawn}
use Rattle.network.proofs.Finishing.{Told}
use Rattle.network.proofs.draft.Draft.kinds.Given as goal

abbrev pub invariant-loop-n : goal.invariant-loop-n
invariant-loop-n l = (length l.kind-items ≡ 33) × Told (drawn l.self.layout) l.n-counter l.kind-items
