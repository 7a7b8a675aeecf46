use Rattle.newell.proofs.Worked.{corridor_worked, diverge_worked}
use Rattle.newell.proofs.theorems.worked_cases.Goals as goal

pub returns : goal.returns
returns c = record { corridor = corridor_worked; diverge = diverge_worked }
