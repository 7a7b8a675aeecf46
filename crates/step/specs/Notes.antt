-- The readings and the row of a link behind a step.
use Rattle.std.specs.Prelude.{◌≡◌, ℕ, ◌+◌, ◌-◌, Option}
use Rattle.newell.specs.declared.records.StepRow.{StepRow}
use Rattle.links.specs.declared.records.Yard.{Yard}
use Rattle.links.specs.Readings.{back, Next}
use Rattle.links.specs.Tables.{Gauge, lane_at}
use Rattle.links.specs.Yards.{holds, size_of, spots_of, Beyond, Laid}

-- `gone` have left the link, `count` are on it: its readings are noted, and its row is filled
pub record Written (a : Gauge) (gone count : ℕ) (time : Option ℕ) (line : StepRow) (b : Gauge) : Type 0 where
  pub on : Next a.ons (back a.offs 0 + gone + count) b.ons
  pub off : Next a.offs (back a.offs 0 + gone) b.offs
  pub travel : b.travel ≡ time
  pub told : line ≡ record { came = back a.offs 0 + gone + count - back a.ons 0; left = gone; travel = time }

-- the lanes and the area are as they were
pub record Still (y y' : Yard) : Type 0 where
  pub lanes : (l : ℕ) → lane_at y'.table l ≡ lane_at y.table l
  pub holds : (l : ℕ) → holds y' l ≡ holds y l
  pub spots : (l : ℕ) → spots_of y' l ≡ spots_of y l
  pub beyond : Beyond y y'
  pub sizes : (l : ℕ) → size_of y' l ≡ size_of y l
  pub laid : Laid y → Laid y'
  pub area : y'.area.now ≡ y.area.now
  pub same : y'.area.ghost_name ≡ y.area.ghost_name
