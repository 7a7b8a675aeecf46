use Rattle.std.proofs.Common.{◌+◌, refl}
use Rattle.newell.specs.declared.records.Vehicle.{Vehicle}
use Rattle.flow.proofs.Queueing.{put_none, put_more, spots_more}
use Rattle.flow.proofs.queue.queue_up.Goals as goal

pub loop-init : goal.loop-init
loop-init c = (put_none (48 + c.args.j) (record { exit = c.args.x; since = 0 }) c.args.yard.now, refl)

pub loop-preserved : goal.loop-preserved
loop-preserved c =
    let v : Vehicle = record { exit = c.args.x; since = 0 } in
    let s = c.loop.invariant.0 in (
      put_more (48 + c.args.j) v c.args.yard.now c.loop.yard c.loop.counter s c.wait.new.yard c.wait.ensures.put,
      spots_more (48 + c.args.j) v c.args.yard.now c.loop.yard c.loop.counter s c.wait.new.yard c.loop.invariant.1 c.wait.ensures.spots,
    )
