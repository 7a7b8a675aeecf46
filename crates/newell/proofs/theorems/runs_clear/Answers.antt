use Rattle.newell.proofs.Moments.{is_cleared}
use Rattle.newell.proofs.theorems.runs_clear.Goals as goal

pub returns : goal.returns
returns c = is_cleared
