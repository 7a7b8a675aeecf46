use Rattle.std.proofs.Common.{ap, ◌∙◌, arith}
use Rattle.std.specs.List.{slice_get}
use Rattle.links.specs.Tables.{lane_no}
use Rattle.links.specs.Yards.{holds}
use Rattle.links.proofs.Changing.{lane_few, count_of, placed_of, sound_of, holds_of, looked}
use Rattle.links.proofs.records.Yard.look.Goals as goal

pub look-requires : goal.look-requires
look-requires c =
    let y = c.args.self.now in
    let k = lane_no c.args.side c.args.i in
    let b = lane_few c.args.side c.args.i c.requires.here in
    let l = c.lane-lane.result in
    let e = c.lane-lane.ensures in
    record { room = placed_of y k l b e; sound = sound_of y k l b e; here = omega (arith, c.requires.some, count_of y k l b e) }

pub returns : goal.returns
returns c =
    let y = c.args.self.now in
    let k = lane_no c.args.side c.args.i in
    looked (holds y k) c.args.q c.look.result c.requires.some (c.look.ensures ∙ ap (λ vs. slice_get vs c.args.q) (holds_of y k c.lane-lane.result c.lane-lane.ensures))
