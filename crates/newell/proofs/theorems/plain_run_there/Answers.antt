use Rattle.newell.proofs.Existing.{plain_run_there}
use Rattle.newell.proofs.theorems.plain_run_there.Goals as goal

pub returns : goal.returns
returns c = plain_run_there
