-- A write to one lane's part and record.
use Rattle.std.proofs.Common.{◌≡◌, ℕ, ◌+◌, ◌-◌, ◌<◌, ◌≤◌, ◌≢◌, List, length, get_or, set, Some, ◌⊎◌, sym, refl, ap, ◌∙◌, subst, ap₂, ⊎_elim, arith}
use Rattle.std.specs.List.{slice_get}
use Rattle.std.proofs.lemmas.Option.{slice_get-get_or}
use Rattle.std.proofs.lemmas.Bool.{cases_lt}
use Rattle.std.proofs.lemmas.List.{length-set}
use Rattle.line.specs.Ring.{held, slot_of, passed}
use Rattle.line.specs.Spots.{spots_in, wrote, round}
use Rattle.line.specs.Parts.{Sound, Around, part_of, queue}
use Rattle.line.specs.declared.shape.Part.{Part}
use Rattle.line.proofs.Pieces.{part_before, part_behind, length_part, slot_inside}
use Rattle.line.proofs.Rings.{length_held}
use Rattle.line.proofs.Writing.{around_set, around_same, spots_take, spots_push, outside}
use Rattle.newell.specs.declared.records.Vehicle.{Vehicle}
use Rattle.links.specs.declared.records.Side.{Side}
use Rattle.links.specs.declared.records.Side.TheVariants.{Road, Queue}
use Rattle.links.specs.declared.records.Yard.{Yard}
use Rattle.links.specs.Tables.{lane_at, lane_no, Marked}
use Rattle.links.specs.Yards.{holds, start_of, size_of, spots_of, Laid, Beyond, Put}
use Rattle.links.proofs.Keeping.{laid_of, starts_kept, sizes_kept}

pub lane_few : (s : Side) (i : ℕ) → i < 48 → lane_no s i < 96
lane_few Road i h = omega arith
lane_few Queue i h = omega arith

-- The lane k, read out as p, is put back as l.
module _ (y y' : Yard) (k : ℕ) (p l : Part) (b : k < 96) (read : p ≡ lane_at y.table k) (put_in : Marked y.table k l y'.table) (tied : y'.area.ghost_name ≡ y.area.ghost_name)
    (start : l.start ≡ p.start) (size : l.size ≡ p.size) where
  laid : Laid y
  laid = laid_of y

  start_here : p.start ≡ (lane_at y.table k).start
  start_here = ap (λ (x : Part). x.start) read

  size_here : p.size ≡ (lane_at y.table k).size
  size_here = ap (λ (x : Part). x.size) read

  sound : Sound p
  sound = subst Sound (sym read) (laid.sound k b)

  lays : p.start + p.size ≤ length y.area.now
  lays = omega (arith, laid.placed k b, start_here, size_here)

  start_same : (j : ℕ) → (lane_at y'.table j).start ≡ (lane_at y.table j).start
  start_same = starts_kept y.table y'.table k p l read put_in start size

  size_same : (j : ℕ) → (lane_at y'.table j).size ≡ (lane_at y.table j).size
  size_same = sizes_kept y.table y'.table k p l read put_in start size

  module _ (around : Around p.start p.size y.area.now y'.area.now) (wide : length y'.area.now ≡ length y.area.now) where
    part : (j : ℕ) → j < 96 → j ≢ k → part_of (lane_at y.table j).start (lane_at y.table j).size y'.area.now ≡ part_of (lane_at y.table j).start (lane_at y.table j).size y.area.now
    part j h ne =
        let r = lane_at y.table j in
        ⊎_elim
        (λ (lt : j < k). part_before _ _ y.area.now y'.area.now around r.start r.size (omega (arith, laid.apart j k lt b, start_here)))
        (λ (le : k ≤ j). let gt : k < j = omega (arith, ne) in part_behind _ _ y.area.now y'.area.now around r.start r.size (omega (arith, laid.apart k j gt h, start_here, size_here)))
        (cases_lt j k)

    others : (j : ℕ) → j < 96 → j ≢ k → queue y'.area.now (lane_at y'.table j) ≡ queue y.area.now (lane_at y.table j)
    others j h ne = let r = lane_at y.table j in ap (queue y'.area.now) (put_in.others j ne) ∙ ap (λ (q : List Vehicle). held q r.head r.len) (part j h ne)

    other_spots : (j : ℕ) → j < 96 → j ≢ k → spots_of y' j ≡ spots_of y j
    unfolding spots_of
    other_spots j h ne =
        let r = lane_at y.table j in
        ap (spots_in y'.area.now) (put_in.others j ne) ∙ ap (λ (q : List Vehicle). record { slots = q; tail = round r.size (slot_of r.size r.head r.len) }) (part j h ne)

    beyond : Beyond y y'
    unfolding start_of size_of
    beyond = record {
      starts = start_same;
      sizes = size_same;
      wide = wide;
      outside = λ q d f. outside _ _ y.area.now y'.area.now around q d (subst (λ (x : Part). (q < x.start) ⊎ (x.start + x.size ≤ q)) (sym read) (f k b));
    }

    put : (vs : List Vehicle) → queue y'.area.now l ≡ vs → Put y y' k vs
    unfolding holds size_of
    put vs filled = record {
      here = ap (queue y'.area.now) put_in.here ∙ filled;
      same = tied;
      others = others;
      spots = other_spots;
      beyond = beyond;
      sizes = size_same;
      gauges = put_in.gauges;
      laid = laid_of y';
    }

  -- one leaves the lane
  module _ (area : y'.area.now ≡ y.area.now) where
    pub took : (vs : List Vehicle) → queue y'.area.now l ≡ vs → Put y y' k vs
    took vs f = put (subst (λ a. Around p.start p.size y.area.now a) (sym area) (around_same p.start p.size y.area.now)) (ap length area) vs f

    pub took_spots : l.head ≡ passed p.size p.head p.len → l.len ≡ p.len - 1 → spots_of y' k ≡ spots_of y k
    unfolding spots_of
    took_spots h n = ap₂ spots_in area put_in.here ∙ spots_take y.area.now p lays sound l start size h n ∙ ap (spots_in y.area.now) read

  -- one comes to it
  module _ (v : Vehicle) (room : p.len < p.size) (area : y'.area.now ≡ set y.area.now (p.start + slot_of p.size p.head p.len) v) where
    pub came : (vs : List Vehicle) → queue y'.area.now l ≡ vs → Put y y' k vs
    came vs f = put
        (subst (λ a. Around p.start p.size y.area.now a) (sym area) (around_set y.area.now p lays _ v (slot_inside p.size p.head p.len sound.inside room)))
        (ap length area ∙ length-set y.area.now _ v) vs f

    pub came_spots : l.head ≡ p.head → l.len ≡ p.len + 1 → spots_of y' k ≡ wrote (spots_of y k) v
    unfolding spots_of
    came_spots h n = ap₂ spots_in area put_in.here ∙ spots_push y.area.now p lays sound l start size v room h n ∙ ap (λ (x : Part). wrote (spots_in y.area.now x) v) read

-- a lane that was read out lies in the area, and its entries in its slots
pub placed_of : (y : Yard) (k : ℕ) (l : Part) → k < 96 → l ≡ lane_at y.table k → l.start + l.size ≤ length y.area.now
placed_of y k l b e = subst (λ (x : Part). x.start + x.size ≤ length y.area.now) (sym e) ((laid_of y).placed k b)

pub sound_of : (y : Yard) (k : ℕ) (l : Part) → k < 96 → l ≡ lane_at y.table k → Sound l
sound_of y k l b e = subst Sound (sym e) ((laid_of y).sound k b)

pub holds_of : (y : Yard) (k : ℕ) (l : Part) → l ≡ lane_at y.table k → queue y.area.now l ≡ holds y k
unfolding holds
holds_of y k l e = ap (queue y.area.now) e

-- a lane's count
pub count_of : (y : Yard) (k : ℕ) (l : Part) → k < 96 → l ≡ lane_at y.table k → l.len ≡ length (holds y k)
count_of y k l b e =
    let n = length_part y.area.now l.start l.size (placed_of y k l b e) in
    let s = sound_of y k l b e in
    sym (length_held (part_of l.start l.size y.area.now) l.head (omega (arith, n, s.inside)) l.len (omega (arith, n, s.fits))) ∙ ap length (holds_of y k l e)

size_at : (y : Yard) (k : ℕ) (l : Part) → l ≡ lane_at y.table k → l.size ≡ size_of y k
unfolding size_of
size_at y k l e = ap (λ (x : Part). x.size) e

pub fits : (y : Yard) (k : ℕ) → k < 96 → length (holds y k) ≤ size_of y k
fits y k b = omega (arith, count_of y k _ b refl, size_at y k _ refl, ((laid_of y).sound k b).fits)

-- a lane that has room takes one more
pub has_room : (y : Yard) (k : ℕ) (l : Part) → k < 96 → l ≡ lane_at y.table k → length (holds y k) < size_of y k → l.len < l.size
has_room y k l b e room = omega (arith, room, count_of y k l b e, size_at y k l e)

pub looked : (vs : List Vehicle) (q : ℕ) (v : Vehicle) → q < length vs → Some v ≡ slice_get vs q → v ≡ get_or vs q (record { exit = 0; since = 0 })
looked vs q v l e = let g = slice_get-get_or vs q (record { exit = 0; since = 0 }) l in cc
