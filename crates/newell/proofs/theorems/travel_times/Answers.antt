use Rattle.newell.proofs.Moments.{is_travel}
use Rattle.newell.proofs.theorems.travel_times.Goals as goal

pub returns : goal.returns
returns c = is_travel
