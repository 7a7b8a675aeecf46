-- What a yard holds, lane by lane, and what it has read, link by link.
use Rattle.std.specs.Prelude.{◌≡◌, ℕ, ◌+◌, ◌<◌, ◌≤◌, ◌≢◌, ◌⊎◌, List, length, Option, slice_index_or}
use Rattle.line.specs.Parts.{queue}
use Rattle.line.specs.Spots.{Spots, spots_in}
use Rattle.newell.specs.declared.records.Vehicle.{Vehicle}
use Rattle.links.specs.declared.records.Yard.{Yard}
use Rattle.links.specs.Counts.{reading_count}
use Rattle.links.specs.Readings.{Full}
use Rattle.links.specs.Tables.{table_size, lane_count, lane_at, record_at, Gauge, gauge_in, Noted, Lies}

-- the vehicles of a lane, in order
unfoldable pub holds : Yard → ℕ → List Vehicle
holds y k = queue y.area.now (lane_at y.table k)

unfoldable pub start_of : Yard → ℕ → ℕ
start_of y k = (lane_at y.table k).start

unfoldable pub size_of : Yard → ℕ → ℕ
size_of y k = (lane_at y.table k).size

-- all slots of a lane, and where the next that comes will lie
unfoldable pub spots_of : Yard → ℕ → Spots Vehicle
spots_of y k = spots_in y.area.now (lane_at y.table k)

-- the readings of a link, and the travel time of the last that left it
abbrev pub gauge_of : Yard → ℕ → Gauge
gauge_of y i = gauge_in (record_at y.table i)

-- the lanes lie in the area, one behind the other, and the entries of each in its slots
abbrev pub Laid : Yard → Type 0
Laid y = Lies (length y.area.now) y.table

-- the lanes lie where they lay, and no slot outside them has changed
pub record Beyond (y y' : Yard) : Type 0 where
  pub starts : (l : ℕ) → start_of y' l ≡ start_of y l
  pub sizes : (l : ℕ) → size_of y' l ≡ size_of y l
  pub wide : length y'.area.now ≡ length y.area.now
  pub outside : (q : ℕ) (d : Vehicle) → ((l : ℕ) → l < lane_count → (q < start_of y l) ⊎ (start_of y l + size_of y l ≤ q)) → slice_index_or y'.area.now q d ≡ slice_index_or y.area.now q d

-- the lane k holds vs now; all others hold what they held, and the readings are the same
pub record Put (y y' : Yard) (k : ℕ) (vs : List Vehicle) : Type 0 where
  pub here : holds y' k ≡ vs
  pub others : (l : ℕ) → l < lane_count → l ≢ k → holds y' l ≡ holds y l
  pub spots : (l : ℕ) → l < lane_count → l ≢ k → spots_of y' l ≡ spots_of y l
  pub beyond : Beyond y y'
  pub sizes : (l : ℕ) → size_of y' l ≡ size_of y l
  pub gauges : (i : ℕ) → gauge_of y' i ≡ gauge_of y i
  pub laid : Laid y'
  pub same : y'.area.ghost_name ≡ y.area.ghost_name

pub record AllFull (y : Yard) : Type 0 where
  pub whole : length y.table.links ≡ table_size
  pub ons : (i : ℕ) → i < table_size → Full (gauge_of y i).ons
  pub offs : (i : ℕ) → i < table_size → Full (gauge_of y i).offs

-- the oldest reading of each curve lies in the curve's ring of slots, whose end is its beginning
pub record InRing (y : Yard) : Type 0 where
  pub ons : (i : ℕ) → i < table_size → (gauge_of y i).ons.oldest ≤ reading_count
  pub offs : (i : ℕ) → i < table_size → (gauge_of y i).offs.oldest ≤ reading_count

-- the readings of the link i are noted; those of the others and all lanes are the same
pub record NotedAt (y : Yard) (i on off : ℕ) (time : Option ℕ) (y' : Yard) : Type 0 where
  pub here : Noted (gauge_of y i) on off time (gauge_of y' i)
  pub others : (k : ℕ) → k ≢ i → gauge_of y' k ≡ gauge_of y k
  pub full : AllFull y'
  pub lanes : (l : ℕ) → lane_at y'.table l ≡ lane_at y.table l
  pub holds : (l : ℕ) → holds y' l ≡ holds y l
  pub spots : (l : ℕ) → spots_of y' l ≡ spots_of y l
  pub beyond : Beyond y y'
  pub sizes : (l : ℕ) → size_of y' l ≡ size_of y l
  pub laid : Laid y → Laid y'
  pub area : y'.area.now ≡ y.area.now
  pub same : y'.area.ghost_name ≡ y.area.ghost_name
