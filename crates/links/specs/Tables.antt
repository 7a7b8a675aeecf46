-- The table of links, record by record.
use Rattle.std.specs.Prelude.{◌≡◌, ℕ, ◌+◌, ◌-◌, ◌<◌, ◌≤◌, cond, ◌≢◌, length, replicate, None, Option, nat_lt, slice_index_or}
use Rattle.line.specs.declared.shape.Part.{Part}
use Rattle.line.specs.Parts.{Sound, fresh}
use Rattle.links.specs.declared.curve.Curve.{Curve}
use Rattle.links.specs.declared.records.LinkRecord.{LinkRecord}
use Rattle.links.specs.declared.records.Table.{Table}
use Rattle.links.specs.declared.records.Side.{Side}
use Rattle.links.specs.declared.records.Side.TheVariants.{Road, Queue}
use Rattle.links.specs.Counts.{reading_count}
pub use Rattle.links.specs.Counts.{table_size, lane_count}
use Rattle.links.specs.Readings.{Next}

-- records of a run just opened
abbrev pub fresh_curve : Curve
fresh_curve = record { slots = replicate reading_count 0; oldest = 0; wide = λ _. reading_count }

abbrev pub fresh_record : Part → Part → LinkRecord
fresh_record road queue = record { road = road; queue = queue; ons = fresh_curve; offs = fresh_curve; travel = None }

abbrev pub blank_record : LinkRecord
blank_record = fresh_record (fresh 0 0) (fresh 0 0)

abbrev pub record_at : Table → ℕ → LinkRecord
record_at table i = slice_index_or table.links i blank_record

-- The lanes by number: the link i's is i, that of those who wait for it table_size + i.
abbrev pub lane_no : Side → ℕ → ℕ
lane_no Road i = i
lane_no Queue i = table_size + i

abbrev pub lane_at : Table → ℕ → Part
lane_at table k = cond (nat_lt k table_size) (record_at table k).road (record_at table (k - table_size)).queue

abbrev pub lane_in : LinkRecord → Side → Part
lane_in r Road = r.road
lane_in r Queue = r.queue

abbrev pub with_lane : LinkRecord → Side → Part → LinkRecord
with_lane r Road l = record { road = l; queue = r.queue; ons = r.ons; offs = r.offs; travel = r.travel }
with_lane r Queue l = record { road = r.road; queue = l; ons = r.ons; offs = r.offs; travel = r.travel }

-- what is known of a link apart from its vehicles
pub record Gauge : Type 0 where
  pub ons : Curve
  pub offs : Curve
  pub travel : Option ℕ

abbrev pub gauge_in : LinkRecord → Gauge
gauge_in r = record { ons = r.ons; offs = r.offs; travel = r.travel }

pub record Noted (g : Gauge) (on off : ℕ) (time : Option ℕ) (g' : Gauge) : Type 0 where
  pub ons : Next g.ons on g'.ons
  pub offs : Next g.offs off g'.offs
  pub travel : g'.travel ≡ time

-- the readings of a link are noted, and its lanes are as they were
pub record Read (r : LinkRecord) (on off : ℕ) (time : Option ℕ) (r' : LinkRecord) : Type 0 where
  pub road : r'.road ≡ r.road
  pub queue : r'.queue ≡ r.queue
  pub noted : Noted (gauge_in r) on off time (gauge_in r')

-- no other record has changed
pub record Changed (t : Table) (i : ℕ) (t' : Table) : Type 0 where
  pub others : (k : ℕ) → k ≢ i → record_at t' k ≡ record_at t k
  pub whole : length t'.links ≡ length t.links

-- The lane k is l now, and all else is as it was.
pub record Marked (t : Table) (k : ℕ) (l : Part) (t' : Table) : Type 0 where
  pub here : lane_at t' k ≡ l
  pub others : (j : ℕ) → j ≢ k → lane_at t' j ≡ lane_at t j
  pub gauges : (i : ℕ) → gauge_in (record_at t' i) ≡ gauge_in (record_at t i)
  pub whole : length t'.links ≡ length t.links

-- the lanes lie in an area of `wide` slots, one behind the other, and the entries of each in its slots
pub record Lies (wide : ℕ) (t : Table) : Type 0 where
  pub whole : length t.links ≡ table_size
  pub placed : (k : ℕ) → k < lane_count → (lane_at t k).start + (lane_at t k).size ≤ wide
  pub sound : (k : ℕ) → k < lane_count → Sound (lane_at t k)
  pub apart : (j k : ℕ) → j < k → k < lane_count → (lane_at t j).start + (lane_at t j).size ≤ (lane_at t k).start
