use Rattle.newell.proofs.Numbering.{longest_walk_there, longest_steps_there, period_opens, meter_opens}
use Rattle.newell.proofs.theorems.clearing_numbers.Goals as goal

pub returns : goal.returns
returns c = record { walk = longest_walk_there; steps = longest_steps_there; period = period_opens; meter = meter_opens }
