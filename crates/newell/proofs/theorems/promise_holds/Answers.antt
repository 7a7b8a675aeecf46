use Rattle.newell.proofs.Moments.{at_each_moment}
use Rattle.newell.proofs.theorems.promise_holds.Goals as goal

pub returns : goal.returns
returns c = at_each_moment
