use Rattle.newell.proofs.Leasts.{nodes_balanced}
use Rattle.newell.proofs.theorems.nodes_balanced.Goals as goal

pub returns : goal.returns
returns c = nodes_balanced
