use Rattle.newell.proofs.Moments.{is_conserved}
use Rattle.newell.proofs.theorems.vehicles_conserved.Goals as goal

pub returns : goal.returns
returns c = is_conserved
