use Rattle.std.proofs.Common.{refl}
use Rattle.network.specs.Layouts.{empty_layout}
use Rattle.network.proofs.draft.grow.empty_layout.Goals as goal

pub returns : goal.returns
unfolding empty_layout
returns c = refl
