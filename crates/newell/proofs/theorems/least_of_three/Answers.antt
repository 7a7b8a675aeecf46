use Rattle.newell.proofs.Leasts.{least_of_three}
use Rattle.newell.proofs.theorems.least_of_three.Goals as goal

pub returns : goal.returns
returns c = least_of_three
