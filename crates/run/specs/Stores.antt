-- What a store holds in the words of the law.
use Rattle.std.specs.Prelude.{◌≡◌, ℕ, ◌+◌, ◌<◌, ◌≤◌, ◌≢◌, ◌⊎◌, List, length, replicate, Ok, Err, Result}
use Rattle.network.specs.Net.{Net, Entrance, Exit, Served}
use Rattle.network.specs.Nets.{net_of}
use Rattle.newell.specs.Now.{RunNow, Queued, Carries, state_now}
use Rattle.newell.specs.History.{Reply, told, refused, book}
use Rattle.plan.specs.View.{view_of}
use Rattle.merge.specs.Rules.{Meaning}
use Rattle.newell.specs.declared.records.LinkState.{LinkState}
use Rattle.newell.specs.declared.records.StepRow.{StepRow}
use Rattle.line.specs.Spots.{written}
use Rattle.links.specs.declared.records.Yard.{Yard}
use Rattle.links.specs.Yards.{spots_of, Beyond}
use Rattle.step.specs.Steps.{Built, Advanced}
use Rattle.run.specs.declared.store.Store.{Store}
use Rattle.run.specs.declared.store.Refusal.{Refusal}
use Rattle.run.specs.declared.store.Refusal.TheVariants.{SmallArea, NoEntrance, NoExit, Unserved, BadCount, NoPlace, Late, NoLink, FewRows}

abbrev pub view_in : Store → RunNow
view_in s = view_of s.yard s.clock

-- the yard is laid out for the network
abbrev pub BuiltIn : Store → Type 0
BuiltIn s = Built (net_of s.net) s.yard

-- each refusal's number
abbrev pub number : Refusal → ℕ
number SmallArea = 31
number NoEntrance = 32
number NoExit = 33
number Unserved = 34
number BadCount = 35
number NoPlace = 36
number Late = 37
number NoLink = 38
number FewRows = 39

abbrev pub reply_of : Result (Unit {0}) Refusal → Reply (Unit {0})
reply_of (Ok u) = told tt
reply_of (Err e) = refused (number e)

abbrev pub answer_of : {A : Type 0} → Result A Refusal → Reply A
answer_of (Ok a) = told a
answer_of (Err e) = refused (number e)

-- the link that P holds of, or the refusal q where there is none
abbrev pub FoundOr : Refusal → (ℕ → Type 0) → Result ℕ Refusal → Type 0
FoundOr q P (Ok j) = P j
FoundOr q P (Err e) = (e ≡ q) × ((j : ℕ) → P j → ⊥)

-- what is so where a booking is accepted
pub record Bookable (net : Net) (r : RunNow) (e x n j : ℕ) : Type 0 where
  pub entrance : Entrance net e j
  pub exit : (i : ℕ) × Exit net x i
  pub served : (k : ℕ) × Served net e x k
  pub least : 1 ≤ n
  pub most : n ≤ 200
  pub room : length (r.queue j) + n ≤ 500

-- the entrance's link, or the refusal that the plain run answers
abbrev pub Judged : Net → RunNow → ℕ → ℕ → ℕ → Result ℕ Refusal → Type 0
Judged net r e x n (Ok j) = Bookable net r e x n j
Judged net r e x n (Err q) = Carries net r (book e x n (refused (number q))) r

-- the answer of a step's checks: the rows first, then the clock
abbrev pub StepJudged : Net → ℕ → ℕ → Result (Unit {0}) Refusal → Type 0
StepJudged net t rows (Ok u) = (net.links ≤ rows) × (t < 1000000)
StepJudged net t rows (Err FewRows) = rows < net.links
StepJudged net t rows (Err Late) = (net.links ≤ rows) × (1000000 ≤ t)
StepJudged net t rows (Err q) = ⊥

-- the answers of the questions
abbrev pub LinkTold : Net → RunNow → ℕ → Result LinkState Refusal → Type 0
LinkTold net r n (Ok s) = (i : ℕ) × (n ≡ i + 1) × (i < net.links) × (s ≡ state_now net r i)
LinkTold net r n (Err q) = (q ≡ NoLink) × ((n < 1) ⊎ (net.links < n))

abbrev pub EntranceTold : Net → RunNow → ℕ → Result ℕ Refusal → Type 0
EntranceTold net r e (Ok n) = (j : ℕ) × Entrance net e j × (n ≡ length (r.queue j))
EntranceTold net r e (Err q) = (q ≡ NoEntrance) × ((j : ℕ) → Entrance net e j → ⊥)

abbrev pub ExitTold : Net → RunNow → ℕ → Result ℕ Refusal → Type 0
ExitTold net r x (Ok n) = (i : ℕ) × Exit net x i × (n ≡ (r.link i).offs 0)
ExitTold net r x (Err q) = (q ≡ NoExit) × ((i : ℕ) → Exit net x i → ⊥)

-- what the slots of the area hold behind a booking for the link j: the vehicles are written behind each other, round the part of those who wait for it
pub record AreaBooked (y : Yard) (j x n : ℕ) (y' : Yard) : Type 0 where
  pub here : spots_of y' (48 + j) ≡ written (spots_of y (48 + j)) (replicate n (record { exit = x; since = 0 }))
  pub others : (l : ℕ) → l < 96 → l ≢ 48 + j → spots_of y' l ≡ spots_of y l
  pub beyond : Beyond y y'

-- an accepted booking writes to the part of the entrance's link, and the vehicles wait behind those that waited
abbrev pub BookedIn : Store → ℕ → ℕ → ℕ → Result (Unit {0}) Refusal → Store → Type 0
BookedIn s e x n (Ok u) s' = (j : ℕ) × Entrance (net_of s.net) e j × AreaBooked s.yard j x n s'.yard × Queued (net_of s.net) (view_in s) j x n (view_in s')
BookedIn s e x n (Err q) s' = Unit {0}

-- an accepted step: what area, run, rows and rule hold behind it, and the clock
pub record SteppedIn (s : Store) (m : Meaning) (rows : List StepRow) (s' : Store) (m' : Meaning) (rows' : List StepRow) : Type 0 where
  pub advanced : Advanced (net_of s.net) s.clock s.yard m rows s'.yard m' rows'
  pub clock : s'.clock ≡ s.clock + 1
