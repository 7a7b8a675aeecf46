use Rattle.newell.proofs.Moments.{is_kept}
use Rattle.newell.proofs.theorems.bounds_kept.Goals as goal

pub returns : goal.returns
returns c = is_kept
