-- What a step makes of a yard.
use Rattle.std.specs.Prelude.{◌≡◌, ℕ, ◌+◌, ◌<◌, ◌≤◌, List, map}
use Rattle.merge.specs.Rules.{Meaning}
use Rattle.network.specs.Net.{Net, Entrance}
use Rattle.newell.specs.declared.records.StepRow.{StepRow}
use Rattle.newell.specs.Now.{RunNow, arrive, Passes, Moved, RowsNow, AskedNow}
use Rattle.links.specs.declared.records.Yard.{Yard}
use Rattle.line.specs.Spots.{written}
use Rattle.links.specs.Yards.{size_of, spots_of, Beyond, Laid, AllFull}
use Rattle.plan.specs.View.{view_of}

-- the parts of a yard are laid out for a network
pub record Built (net : Net) (y : Yard) : Type 0 where
  pub full : AllFull y
  pub laid : Laid y
  pub sizes : (i : ℕ) → i < net.links → size_of y i ≡ (net.link i).storage
  pub waits : (e j : ℕ) → Entrance net e j → size_of y (48 + j) ≡ 500

-- so many leave each link, and run, rows and rule go on by that
pub record Stepped (net : Net) (r : RunNow) (m : Meaning) (rows : List StepRow) (r' : RunNow) (m' : Meaning) (rows' : List StepRow) : Type 0 where
  pub out : ℕ → ℕ
  pub passes : (n : ℕ) → Passes net r m out n
  pub moved : Moved net r out r'
  pub filled : RowsNow net r out rows rows'
  pub asked : AskedNow net r m m'

-- What the slots of the area hold behind the step from t, if so many leave each link: those that came on are written behind each other, round their
-- link's part; nothing is written to the parts of those who wait, to parts of no link, and outside all parts.
pub record Area (net : Net) (t : ℕ) (out : ℕ → ℕ) (y y' : Yard) : Type 0 where
  pub roads : (j : ℕ) → j < net.links → spots_of y' j ≡ written (spots_of y j) (map (λ x. record { exit = x; since = t + 1 }) (arrive net (view_of y t) out j))
  pub queues : (j : ℕ) → j < 48 → spots_of y' (48 + j) ≡ spots_of y (48 + j)
  pub idle : (j : ℕ) → net.links ≤ j → j < 48 → spots_of y' j ≡ spots_of y j
  pub beyond : Beyond y y'

-- a step of a yard: run, rows, rule and area
pub record Advanced (net : Net) (t : ℕ) (y : Yard) (m : Meaning) (rows : List StepRow) (y' : Yard) (m' : Meaning) (rows' : List StepRow) : Type 0 where
  pub stepped : Stepped net (view_of y t) m rows (view_of y' (t + 1)) m' rows'
  pub area : Area net t stepped.out y y'
