use Rattle.std.proofs.Common.{length, refl, ap, ◌∙◌}
use Rattle.line.specs.Ring.{first, rest}
use Rattle.links.specs.Tables.{lane_no}
use Rattle.links.specs.Yards.{holds}
use Rattle.links.proofs.Keeping.{laid_of, lies_put}
use Rattle.links.proofs.Changing.{lane_few, placed_of, sound_of, holds_of, took, took_spots}
use Rattle.links.proofs.records.Yard.take.Goals as goal

pub take-v-requires : goal.take-v-requires
take-v-requires c =
    let y = c.args.self.now in
    let k = lane_no c.args.side c.args.i in
    let b = lane_few c.args.side c.args.i c.requires.here in
    let l = c.lane-lane.result in
    let e = c.lane-lane.ensures in
    record { room = placed_of y k l b e; sound = sound_of y k l b e }

pub invariant_of-self : goal.invariant_of-self
invariant_of-self c =
    let y = c.args.self.now in
    let t = c.take-v.ensures in
    record { laid = ∣ lies_put y.table c.put_lane.new.self (lane_no c.args.side c.args.i) c.lane-lane.result c.take-v.new.self c.lane-lane.ensures c.put_lane.ensures t.start t.size _ _ (laid_of y) (ap length t.area) t.sound ∣₁ }

pub returns : goal.returns
returns c =
    let y = c.args.self.now in
    let k = lane_no c.args.side c.args.i in
    let b = lane_few c.args.side c.args.i c.requires.here in
    let p = c.lane-lane.result in
    let e = c.lane-lane.ensures in
    let t = c.take-v.ensures in
    let l = c.take-v.new.self in
    let h = holds_of y k p e in
    record {
      told = t.told ∙ ap first h;
      put = took y _ k p l b e c.put_lane.ensures refl t.start t.size t.area (rest (holds y k)) (t.holds ∙ ap rest h);
      spots = took_spots y _ k p l b e c.put_lane.ensures refl t.start t.size t.area t.head t.len;
      same = refl;
    }
