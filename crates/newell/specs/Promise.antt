-- What is promised of every run at each moment: vehicles are conserved, links keep their bounds, vehicles keep their order, travel times are
-- those of the curves, and a run clears.
use Rattle.std.specs.Prelude.{◌≡◌, ℕ, zero, suc, ◌+◌, ◌-◌, ◌*◌, ◌<◌, ◌≤◌, cond, List, [], ◌∷◌, ◌++◌, map, length, take, Some, None, sum_by, ◌==◌}
use Rattle.std.specs.List.{AllByRecursion}
use Rattle.network.specs.Net.{Net, Sound, Entrance, Exit, MostLinks, LongestSteps, entering, leaving}
use Rattle.merge.specs.Rules.{Meaning, Lawful}
use Rattle.newell.specs.Plain.{Curves, U, V, on, waiting, leavers, newcomers, exits, towards}
use Rattle.newell.specs.History.{History, book, step, ask_link, ask_entrance, ask_exit, told, refused, Call, to_book, to_step, to_ask_link, to_ask_entrance, to_ask_exit, call, clock, booked, booked_for, gone_by, handed, travel, Follows}

-- a sum over the places below n
abbrev pub total : ℕ → (ℕ → ℕ) → ℕ
total zero f = 0
total (suc n) f = total n f + f n

-- 1 for the exit x, 0 for any other
abbrev pub named : ℕ → ℕ → ℕ
named x y = cond (y == x) 1 0

-- those in the run at the clock t: waiting for a link, and on a link
module _ (net : Net) (c : Curves) (booked : ℕ → List ℕ) where
  abbrev pub waiting_for : ℕ → ℕ → ℕ
  waiting_for x t = total net.links (λ j. sum_by (named x) (waiting net c (booked (net.link j).from) j t))

  abbrev pub driving_for : ℕ → ℕ → ℕ
  driving_for x t = total net.links (λ i. sum_by (λ v. named x v.exit) (on net c i t))

  abbrev pub in_run : ℕ → ℕ
  in_run t = total net.links (λ j. length (waiting net c (booked (net.link j).from) j t)) + total net.links (λ i. length (on net c i t))

  pub record Empty (t : ℕ) : Type 0 where
    pub none_waits : (j : ℕ) → j < net.links → waiting net c (booked (net.link j).from) j t ≡ []
    pub none_drives : (i : ℕ) → i < net.links → on net c i t ≡ []

-- In any z steps running from the clock `low` on and before the clock `high`, each merge leg has a limit above zero at least once.
pub record Opens (net : Net) (m : ℕ → Meaning) (low high z : ℕ) : Type 0 where
  pub least : 1 ≤ z
  pub first : (s : ℕ) → low ≤ s → s + z ≤ high → (n i i' j : ℕ) → entering net n ≡ i ∷ i' ∷ [] → leaving net n ≡ j ∷ []
      → (u : ℕ) × (s ≤ u) × (u < s + z) × (0 < ((m u).limits n u).0)
  pub second : (s : ℕ) → low ≤ s → s + z ≤ high → (n i i' j : ℕ) → entering net n ≡ i ∷ i' ∷ [] → leaving net n ≡ j ∷ []
      → (u : ℕ) × (s ≤ u) × (u < s + z) × (0 < ((m u).limits n u).1)

-- no booking was accepted
abbrev pub Unbooked : History → Type 0
Unbooked [] = Unit {0}
Unbooked (book e x n (told u) ∷ h) = ⊥
Unbooked (book e x n (refused k) ∷ h) = Unbooked h
Unbooked (step m rows r m' rows' ∷ h) = Unbooked h
Unbooked (ask_link i r ∷ h) = Unbooked h
Unbooked (ask_entrance e r ∷ h) = Unbooked h
Unbooked (ask_exit x r ∷ h) = Unbooked h

-- The plain run with the curves c, behind the calls h.
module _ (net : Net) (c : Curves) (h : History) where
  -- For the exit x with its entering link g: those waiting, on links and gone come to those booked for it. Booked and gone are sums of the
  -- accepted calls' own numbers; and those gone are those that left the link g.
  pub record Conserved (x g : ℕ) : Type 0 where
    pub sum : waiting_for net c (booked h (clock h)) x (clock h) + driving_for net c (booked h (clock h)) x (clock h) + gone_by h g ≡ booked_for h x
    pub gone : gone_by h g ≡ V net c g (clock h)

  -- A link never held more than its jam storage, nor passed more than its capacity at either end in a step, and no vehicle left it before its free
  -- steps were over.
  pub record Kept (i : ℕ) : Type 0 where
    pub storage : (t : ℕ) → t ≤ clock h → U net c i t ≤ V net c i t + (net.link i).storage
    pub capacity_on : (t : ℕ) → t < clock h → U net c i (t + 1) ≤ U net c i t + (net.link i).capacity
    pub capacity_off : (t : ℕ) → t < clock h → V net c i (t + 1) ≤ V net c i t + (net.link i).capacity
    pub free_over : (t : ℕ) → t < clock h → AllByRecursion (λ v. v.since + (net.link i).free ≤ t + 1) (leavers net c i t)

  -- In the step from t, vehicles left each link in the order they came on, and came on behind all others, with that step's clock. Those that came on a
  -- link are, in order, the first that waited for it, or those that left for it: at a merge the first leg's ahead of the second's.
  pub record InOrder (t : ℕ) : Type 0 where
    pub left : (i : ℕ) → i < net.links → take (V net c i (t + 1)) (c.came i (t + 1)) ≡ take (V net c i t) (c.came i t) ++ leavers net c i t
    pub came : (j : ℕ) → j < net.links → c.came j (t + 1) ≡ c.came j t ++ newcomers net c j t
    pub stamped : (j : ℕ) → j < net.links → AllByRecursion (λ v. v.since ≡ t + 1) (newcomers net c j t)
    pub entrance : (e j : ℕ) → Entrance net e j
        → exits (newcomers net c j t) ≡ take (U net c j (t + 1) - U net c j t) (waiting net c (booked h t e) j t)
    pub mainline : (n i j : ℕ) → entering net n ≡ i ∷ [] → leaving net n ≡ j ∷ [] → exits (newcomers net c j t) ≡ exits (leavers net c i t)
    pub merge : (n i i' j : ℕ) → entering net n ≡ i ∷ i' ∷ [] → leaving net n ≡ j ∷ []
        → exits (newcomers net c j t) ≡ exits (leavers net c i t) ++ exits (leavers net c i' t)
    pub diverge : (n i j j' : ℕ) → entering net n ≡ i ∷ [] → leaving net n ≡ j ∷ j' ∷ []
        → (exits (newcomers net c j t) ≡ exits (towards net i j (leavers net c i t))) × (exits (newcomers net c j' t) ≡ exits (towards net i j' (leavers net c i t)))

  -- The travel time is absent when none left, else t + 1 less the first clock at which U reached V(t + 1).
  pub record Travels (i t : ℕ) : Type 0 where
    pub absent : V net c i (t + 1) ≡ V net c i t → travel net c i t ≡ None
    pub present : V net c i t < V net c i (t + 1)
        → (z : ℕ) × (travel net c i t ≡ Some (t + 1 - z)) × (V net c i (t + 1) ≤ U net c i z) × ((s : ℕ) → s < z → U net c i s < V net c i (t + 1))

  -- Those in the run at an earlier moment, behind the calls h₀, are gone once N × (H + 1) × (W + Z − 1) steps are accepted with no booking accepted
  -- between: N of them, H the most links on a served walk, W the longest free or wave steps, Z as `Opens` says.
  abbrev pub Clears : Type 0
  Clears = (later h₀ : History) → h ≡ later ++ h₀ → Unbooked later
      → (H W Z : ℕ) → MostLinks net H → LongestSteps net W → Opens net (handed h) (clock h₀) (clock h) Z
      → clock h₀ + in_run net c (booked h₀ (clock h₀)) (clock h₀) * (H + 1) * (W + Z - 1) ≤ clock h
      → Empty net c (booked h (clock h)) (clock h)

  pub record Promise : Type 0 where
    pub conserved : (x g : ℕ) → Exit net x g → Conserved x g
    pub kept : (i : ℕ) → i < net.links → Kept i
    pub in_order : (t : ℕ) → t < clock h → InOrder t
    pub travels : (i t : ℕ) → i < net.links → t < clock h → Travels i t
    pub clears : Clears

-- A statement holds at each moment of every plain run.
abbrev pub Always : (Net → Curves → History → Type 0) → Type 0
Always P = (net : Net) → Sound net → (h : History) (c : Curves) → Follows net c h → P net c h

abbrev pub VehiclesConserved : Type 0
VehiclesConserved = Always (λ net c h. (x g : ℕ) → Exit net x g → Conserved net c h x g)

abbrev pub BoundsKept : Type 0
BoundsKept = Always (λ net c h. (i : ℕ) → i < net.links → Kept net c h i)

abbrev pub OrderKept : Type 0
OrderKept = Always (λ net c h. (t : ℕ) → t < clock h → InOrder net c h t)

abbrev pub TravelTimes : Type 0
TravelTimes = Always (λ net c h. (i t : ℕ) → i < net.links → t < clock h → Travels net c h i t)

abbrev pub RunsClear : Type 0
RunsClear = Always Clears

abbrev pub AtEachMoment : Type 0
AtEachMoment = Always Promise

-- For every list of calls that bring lawful rules there is a plain run,
abbrev pub Lawfully : Call → Type 0
Lawfully (to_book e x n) = Unit {0}
Lawfully (to_step m rows) = Lawful m
Lawfully (to_ask_link n) = Unit {0}
Lawfully (to_ask_entrance e) = Unit {0}
Lawfully (to_ask_exit x) = Unit {0}

abbrev pub PlainRunThere : Type 0
PlainRunThere = (net : Net) → Sound net → (calls : List Call) → AllByRecursion Lawfully calls → (h : History) × (c : Curves) × (map call h ≡ calls) × Follows net c h

-- and it is one: two plain runs for the same calls agree.
abbrev pub Agree : Net → Curves → Curves → ℕ → Type 0
Agree net c d t = (s i : ℕ) → s ≤ t → i < net.links → (c.came i s ≡ d.came i s) × (c.left i s ≡ d.left i s)

abbrev pub OnePlainRun : Type 0
OnePlainRun = (net : Net) → Sound net → (h h' : History) (c d : Curves) → map call h ≡ map call h' → Follows net c h → Follows net d h'
    → (h ≡ h') × Agree net c d (clock h)
