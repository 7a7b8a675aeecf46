use Rattle.newell.proofs.Carried.{opening_starts, booking_carries, step_carries, idle_carries, link_tells}
use Rattle.newell.proofs.Telling.{entrance_tells, exit_tells, ran_carries, each_moment}
use Rattle.newell.proofs.Safety.{reached_safe}
use Rattle.newell.proofs.theorems.calls_carry.Goals as goal

pub returns : goal.returns
returns c = record {
  opening = opening_starts;
  booking = booking_carries;
  stepping = step_carries;
  idle = idle_carries;
  link = link_tells;
  entrance = entrance_tells;
  exit = exit_tells;
  one_by_one = ran_carries;
  moments = each_moment;
  safe = reached_safe;
}
