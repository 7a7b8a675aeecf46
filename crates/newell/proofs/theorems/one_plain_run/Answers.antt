use Rattle.newell.proofs.Calls.{one_plain_run}
use Rattle.newell.proofs.theorems.one_plain_run.Goals as goal

pub returns : goal.returns
returns c = one_plain_run
