use Rattle.std.proofs.Common.{◌≡◌, true, [], ◌∷◌, ◌++◌, length, is_ok, refl, ap, ◌∙◌, lt-ltb}
use Rattle.std.proofs.lemmas.Bool.{cond-true}
use Rattle.std.proofs.lemmas.List.{length-set}
use Rattle.links.specs.Tables.{lane_no}
use Rattle.links.specs.Yards.{holds}
use Rattle.links.proofs.Keeping.{laid_of, lies_put}
use Rattle.links.proofs.Changing.{lane_few, placed_of, sound_of, holds_of, has_room, came, came_spots}
use Rattle.links.proofs.records.Yard.push.Goals as goal

pub push-requires : goal.push-requires
push-requires c =
    let y = c.args.self.now in
    let k = lane_no c.args.side c.args.i in
    let b = lane_few c.args.side c.args.i c.requires.here in
    let l = c.lane-lane.result in
    let e = c.lane-lane.ensures in
    record { room = placed_of y k l b e; sound = sound_of y k l b e }

pub unwrap-requires : goal.unwrap-requires
unwrap-requires c =
    let p = c.lane-lane.result in
    c.push.ensures.told ∙ lt-ltb p.len p.size (has_room c.args.self.now (lane_no c.args.side c.args.i) p (lane_few c.args.side c.args.i c.requires.here) c.lane-lane.ensures c.requires.room)

pub invariant_of-self : goal.invariant_of-self
invariant_of-self c =
    let y = c.args.self.now in
    let k = lane_no c.args.side c.args.i in
    let p = c.lane-lane.result in
    let e = c.lane-lane.ensures in
    let t = c.push.ensures in
    let yes = t.told ∙ lt-ltb p.len p.size (has_room y k p (lane_few c.args.side c.args.i c.requires.here) e c.requires.room) in
    let wide = ap length (t.area ∙ cond-true (is_ok c.push.result) _ _ yes) ∙ length-set y.area.now _ c.args.v in
    record { laid = ∣ lies_put y.table c.put_lane.new.self k p c.push.new.self e c.put_lane.ensures t.start t.size _ _ (laid_of y) wide t.sound ∣₁ }

pub returns : goal.returns
returns c =
    let y = c.args.self.now in
    let k = lane_no c.args.side c.args.i in
    let b = lane_few c.args.side c.args.i c.requires.here in
    let p = c.lane-lane.result in
    let e = c.lane-lane.ensures in
    let t = c.push.ensures in
    let h = holds_of y k p e in
    let l = c.push.new.self in
    let room = has_room y k p b e c.requires.room in
    let yes : is_ok c.push.result ≡ true = t.told ∙ lt-ltb p.len p.size room in
    let area = t.area ∙ cond-true (is_ok c.push.result) _ _ yes in
    record {
      put = came y _ k p l b e c.put_lane.ensures refl t.start t.size c.args.v room area (holds y k ++ c.args.v ∷ []) (t.holds ∙ cond-true (is_ok c.push.result) _ _ yes ∙ ap (λ vs. vs ++ c.args.v ∷ []) h);
      spots = came_spots y _ k p l b e c.put_lane.ensures refl t.start t.size c.args.v room area t.head (t.len ∙ cond-true (is_ok c.push.result) _ _ yes);
      same = refl;
    }
