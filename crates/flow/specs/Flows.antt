-- Vehicles that go on from link to link.
use Rattle.std.specs.Prelude.{◌≡◌, ℕ, zero, suc, ◌+◌, ◌-◌, ◌<◌, ◌≤◌, cond, ◌≢◌, List, [], ◌∷◌, ◌++◌, map, length, get_or, take, drop, Some, None, Option, ◌==◌, nat_lt, slice_index_or}
use Rattle.newell.specs.declared.records.Vehicle.{Vehicle}
use Rattle.network.specs.Net.{Net, next, is}
use Rattle.newell.specs.Plain.{towards}
use Rattle.links.specs.declared.records.Yard.{Yard}
use Rattle.line.specs.Spots.{wrote, written}
use Rattle.links.specs.Tables.{table_size, lane_count}
use Rattle.links.specs.Yards.{holds, spots_of, size_of, gauge_of, Laid, Beyond, Put}

abbrev pub nobody : Vehicle
nobody = record { exit = 0; since = 0 }

abbrev pub leader : List Vehicle → Vehicle
leader vs = slice_index_or vs 0 nobody

-- the travel time of the last to leave in the step from t
abbrev pub lasted : ℕ → Option Vehicle → Option ℕ
lasted t None = None
lasted t (Some v) = Some (t + 1 - v.since)

-- that of the nth of vs, if n is not 0
abbrev pub time_of : ℕ → ℕ → List Vehicle → Option ℕ
time_of t n vs = cond (n == 0) None (Some (t + 1 - (get_or vs (n - 1) nobody).since))

-- a vehicle for x that comes on a link at the clock t + 1
abbrev pub arrived : ℕ → ℕ → Vehicle
arrived t x = record { exit = x; since = t + 1 }

-- those that come on a link at the clock t + 1
unfoldable pub stamped : ℕ → List ℕ → List Vehicle
stamped t xs = map (λ x. record { exit = x; since = t + 1 }) xs

-- the link that is taken next, if there is one, has room
abbrev pub Roomy : Option ℕ → Yard → Type 0
Roomy None y = Unit {0}
Roomy (Some j) y = (j < table_size) × (length (holds y j) < size_of y j)

-- a vehicle for x has come on the link that is taken next, if there is one
abbrev pub Came : Option ℕ → ℕ → ℕ → Yard → Yard → Type 0
Came None t x y y' = y' ≡ y
Came (Some j) t x y y' = Put y y' j (holds y j ++ arrived t x ∷ []) × (spots_of y' j ≡ wrote (spots_of y j) (arrived t x))

-- of vehicles that leave the link i, the exits of those that take the link j
unfoldable pub going : Net → ℕ → ℕ → List Vehicle → List ℕ
going net i j vs = map (λ v. v.exit) (towards net i j vs)

-- who leaves for the link j, of one vehicle for x
unfoldable pub taking : Net → ℕ → ℕ → ℕ → List ℕ
taking net i j x = cond (is (next net i x) j) (x ∷ []) []

-- a vehicle for x has come on the link after i
pub record Gone (net : Net) (t i x : ℕ) (y y' : Yard) : Type 0 where
  pub to : (j : ℕ) → j < lane_count → holds y' j ≡ holds y j ++ stamped t (taking net i j x)
  pub spots : (j : ℕ) → j < lane_count → spots_of y' j ≡ written (spots_of y j) (stamped t (taking net i j x))
  pub beyond : Beyond y y'
  pub sizes : (l : ℕ) → size_of y' l ≡ size_of y l
  pub gauges : (i : ℕ) → gauge_of y' i ≡ gauge_of y i
  pub laid : Laid y'
  pub same : y'.area.ghost_name ≡ y.area.ghost_name

-- vs have left the link i, and have come on the links after it
pub record Sent (net : Net) (t i : ℕ) (vs : List Vehicle) (y y' : Yard) : Type 0 where
  pub from : holds y i ≡ vs ++ holds y' i
  pub to : (j : ℕ) → j < lane_count → j ≢ i → holds y' j ≡ holds y j ++ stamped t (going net i j vs)
  pub stay : spots_of y' i ≡ spots_of y i
  pub spots : (j : ℕ) → j < lane_count → j ≢ i → spots_of y' j ≡ written (spots_of y j) (stamped t (going net i j vs))
  pub beyond : Beyond y y'
  pub sizes : (l : ℕ) → size_of y' l ≡ size_of y l
  pub gauges : (i : ℕ) → gauge_of y' i ≡ gauge_of y i
  pub laid : Laid y'
  pub same : y'.area.ghost_name ≡ y.area.ghost_name

-- The exits of those that have come on the link j once the links below n have sent k each of the vehicles that they held.
module _ (net : Net) (on : ℕ → List Vehicle) (k : ℕ → ℕ) where
  abbrev pub came_by : ℕ → ℕ → List ℕ
  came_by zero j = []
  came_by (suc i) j = came_by i j ++ going net i j (take (k i) (on i))

abbrev pub up_to : ℕ → ℕ → ℕ → ℕ
up_to n j x = cond (nat_lt j n) x 0

-- the links below n have sent k each
pub record SentAll (net : Net) (t : ℕ) (k : ℕ → ℕ) (n : ℕ) (y y' : Yard) : Type 0 where
  pub to : (j : ℕ) → j < lane_count → holds y' j ≡ drop (up_to n j (k j)) (holds y j) ++ stamped t (came_by net (holds y) k n j)
  pub spots : (j : ℕ) → j < lane_count → spots_of y' j ≡ written (spots_of y j) (stamped t (came_by net (holds y) k n j))
  pub beyond : Beyond y y'
  pub sizes : (l : ℕ) → size_of y' l ≡ size_of y l
  pub gauges : (i : ℕ) → gauge_of y' i ≡ gauge_of y i
  pub laid : Laid y'
  pub same : y'.area.ghost_name ≡ y.area.ghost_name

-- what sending asks: each holds as many as it sends, all came on by t, and there is room for those that come
pub record Sendable (net : Net) (t : ℕ) (k : ℕ → ℕ) (y : Yard) : Type 0 where
  pub enough : (i : ℕ) → i < net.links → k i ≤ length (holds y i)
  pub past : (i q : ℕ) → i < net.links → q < k i → (get_or (holds y i) q nobody).since ≤ t
  pub room : (j : ℕ) → j < lane_count → length (holds y j) + length (came_by net (holds y) k net.links j) ≤ size_of y j

unfoldable pub exits : List Vehicle → List ℕ
exits vs = map (λ v. v.exit) vs

-- vs have come from the entrance on the link j
pub record Pulled (t j : ℕ) (vs : List Vehicle) (y y' : Yard) : Type 0 where
  pub from : holds y (table_size + j) ≡ vs ++ holds y' (table_size + j)
  pub on : holds y' j ≡ holds y j ++ stamped t (exits vs)
  pub others : (l : ℕ) → l < lane_count → l ≢ j → l ≢ table_size + j → holds y' l ≡ holds y l
  pub spots : spots_of y' j ≡ written (spots_of y j) (stamped t (exits vs))
  pub rests : (l : ℕ) → l < lane_count → l ≢ j → spots_of y' l ≡ spots_of y l
  pub beyond : Beyond y y'
  pub sizes : (l : ℕ) → size_of y' l ≡ size_of y l
  pub gauges : (i : ℕ) → gauge_of y' i ≡ gauge_of y i
  pub laid : Laid y'
  pub same : y'.area.ghost_name ≡ y.area.ghost_name

-- those that wait for the links below n have come on, as many as k says
pub record PulledAll (t : ℕ) (k : ℕ → ℕ) (n : ℕ) (y y' : Yard) : Type 0 where
  pub from : (j : ℕ) → j < table_size → holds y' (table_size + j) ≡ drop (up_to n j (k j)) (holds y (table_size + j))
  pub on : (j : ℕ) → j < table_size → holds y' j ≡ holds y j ++ stamped t (exits (take (up_to n j (k j)) (holds y (table_size + j))))
  pub spots : (j : ℕ) → j < table_size → spots_of y' j ≡ written (spots_of y j) (stamped t (exits (take (up_to n j (k j)) (holds y (table_size + j)))))
  pub rests : (j : ℕ) → j < table_size → spots_of y' (table_size + j) ≡ spots_of y (table_size + j)
  pub beyond : Beyond y y'
  pub sizes : (l : ℕ) → size_of y' l ≡ size_of y l
  pub gauges : (i : ℕ) → gauge_of y' i ≡ gauge_of y i
  pub laid : Laid y'
  pub same : y'.area.ghost_name ≡ y.area.ghost_name

-- what a step makes of the lanes: r may come on each link, k leave it
pub record Shifted (net : Net) (t : ℕ) (r k : ℕ → ℕ) (y y' : Yard) : Type 0 where
  pub cars : (j : ℕ) → j < net.links → holds y' j ≡ drop (k j) (holds y j) ++ stamped t (exits (take (r j) (holds y (table_size + j))) ++ came_by net (holds y) k net.links j)
  pub waits : (j : ℕ) → j < net.links → holds y' (table_size + j) ≡ drop (r j) (holds y (table_size + j))
  -- what the slots hold: those that came are written behind each other, round the lane
  pub spots : (j : ℕ) → j < net.links → spots_of y' j ≡ written (spots_of y j) (stamped t (exits (take (r j) (holds y (table_size + j))) ++ came_by net (holds y) k net.links j))
  pub rests : (j : ℕ) → j < table_size → spots_of y' (table_size + j) ≡ spots_of y (table_size + j)
  pub beyond : Beyond y y'
  -- places with no link
  pub idle : (j : ℕ) → net.links ≤ j → j < table_size → (holds y' j ≡ holds y j) × (holds y' (table_size + j) ≡ holds y (table_size + j)) × (spots_of y' j ≡ spots_of y j)
  pub sizes : (l : ℕ) → size_of y' l ≡ size_of y l
  pub gauges : (i : ℕ) → gauge_of y' i ≡ gauge_of y i
  pub laid : Laid y'
  pub same : y'.area.ghost_name ≡ y.area.ghost_name

pub record Shiftable (net : Net) (t : ℕ) (r k : ℕ → ℕ) (y : Yard) : Type 0 where
  pub enough : (i : ℕ) → i < net.links → k i ≤ length (holds y i)
  pub past : (i q : ℕ) → i < net.links → q < k i → (get_or (holds y i) q nobody).since ≤ t
  pub room : (j : ℕ) → j < net.links → length (holds y j) + (length (take (r j) (holds y (table_size + j))) + length (came_by net (holds y) k net.links j)) ≤ size_of y j
