-- What a run holds at a moment, and how that shows the plain run; what each call makes of it, and so takes the plain run on.
-- The code of a run shows the records here of its own fields; the statements here then give the promise.
use Rattle.newell.specs.declared.records.LinkState.{LinkState}
use Rattle.newell.specs.declared.records.Vehicle.{Vehicle}
use Rattle.merge.specs.declared.question.Question.{Question}
use Rattle.newell.specs.declared.records.StepRow.{StepRow}
use Rattle.std.specs.Prelude.{◌≡◌, ℕ, ◌+◌, ◌-◌, ◌*◌, ◌<◌, ◌≤◌, min, List, [], ◌∷◌, ◌++◌, map, length, take, drop, replicate, Some, None, Option, ◌≢◌, slice_index_or}
use Rattle.std.specs.List.{flat_map, AllByRecursion}
use Rattle.network.specs.Net.{Net, Sound, Entrance, Exit, Served, entering, leaving}
use Rattle.merge.specs.Rules.{Meaning, Lawful}
use Rattle.newell.specs.Plain.{Curves, U, V, on, waiting, towards, Greatest}
use Rattle.newell.specs.History.{History, Event, book, step, ask_link, ask_entrance, ask_exit, told, refused, Answers, clock, booked, final, last_travel, Follows}
use Rattle.newell.specs.Promise.{Promise}

-- of a link: U and V so many clocks ago, the vehicles on it, the last step's travel time
pub record LinkNow : Type 0 where
  pub ons : ℕ → ℕ
  pub offs : ℕ → ℕ
  pub cars : List Vehicle
  pub travel : Option ℕ

-- of a run: its clock, its links, and the exits of those that wait for a link at its entrance
pub record RunNow : Type 0 where
  pub clock : ℕ
  pub link : ℕ → LinkNow
  pub queue : ℕ → List ℕ

-- what the run holds is what the plain run tells at this moment
pub record Shows (net : Net) (c : Curves) (h : History) (r : RunNow) : Type 0 where
  pub time : r.clock ≡ clock h
  pub ons : (i k : ℕ) → i < net.links → k ≤ 63 → (r.link i).ons k ≡ U net c i (clock h - k)
  pub offs : (i k : ℕ) → i < net.links → k ≤ 63 → (r.link i).offs k ≡ V net c i (clock h - k)
  pub cars : (i : ℕ) → i < net.links → (r.link i).cars ≡ on net c i (clock h)
  pub travel : (i : ℕ) → i < net.links → (r.link i).travel ≡ last_travel net c i (clock h)
  pub queue : (j : ℕ) → j < net.links → r.queue j ≡ waiting net c (booked h (clock h) (net.link j).from) j (clock h)

-- what a link may send and take, and what the rule is asked, in what the run holds
module _ (net : Net) (r : RunNow) where
  abbrev pub sends : ℕ → ℕ
  sends i = min ((r.link i).ons ((net.link i).free - 1) - (r.link i).offs 0) (net.link i).capacity

  abbrev pub takes : ℕ → ℕ
  takes j = min ((r.link j).offs ((net.link j).wave - 1) + (net.link j).storage - (r.link j).ons 0) (net.link j).capacity

  abbrev pub asks : ℕ → ℕ → ℕ → Question
  asks i i' j = record { clock = r.clock; s1 = sends i; s2 = sends i'; r = takes j; q1 = (net.link i).capacity; q2 = (net.link i').capacity }

  -- of the first k vehicles on i, each leaving link gets no more than it may take
  pub record Fit (i j j' k : ℕ) : Type 0 where
    pub sent : k ≤ sends i
    pub one : length (towards net i j (take k (r.link i).cars)) ≤ takes j
    pub other : length (towards net i j' (take k (r.link i).cars)) ≤ takes j'

  -- how many leave each link at the node n
  pub record Passes (m : Meaning) (k : ℕ → ℕ) (n : ℕ) : Type 0 where
    pub exit : (i : ℕ) → entering net n ≡ i ∷ [] → leaving net n ≡ [] → k i ≡ sends i
    pub mainline : (i j : ℕ) → entering net n ≡ i ∷ [] → leaving net n ≡ j ∷ [] → k i ≡ min (sends i) (takes j)
    pub merge : (i i' j : ℕ) → entering net n ≡ i ∷ i' ∷ [] → leaving net n ≡ j ∷ []
        → (k i ≡ (m.splits n [] (asks i i' j)).0) × (k i' ≡ (m.splits n [] (asks i i' j)).1)
    pub diverge : (i j j' : ℕ) → entering net n ≡ i ∷ [] → leaving net n ≡ j ∷ j' ∷ [] → Greatest (Fit i j j') (k i)

-- if k i vehicles leave the link i: who leaves it, and the exits of those that come on a link
module _ (net : Net) (r : RunNow) (k : ℕ → ℕ) where
  abbrev pub leave : ℕ → List Vehicle
  leave i = take (k i) (r.link i).cars

  abbrev pub arrive : ℕ → List ℕ
  arrive j = take (takes net r j) (r.queue j) ++ flat_map (λ i. map (λ v. v.exit) (towards net i j (leave i))) (entering net (net.link j).from)

  abbrev pub lasted : Option Vehicle → Option ℕ
  lasted None = None
  lasted (Some v) = Some (r.clock + 1 - v.since)

  -- what the run holds after the step
  pub record Moved (r' : RunNow) : Type 0 where
    pub clock : r'.clock ≡ r.clock + 1
    pub ons : (i q : ℕ) → i < net.links → q < 63 → (r'.link i).ons (q + 1) ≡ (r.link i).ons q
    pub offs : (i q : ℕ) → i < net.links → q < 63 → (r'.link i).offs (q + 1) ≡ (r.link i).offs q
    pub come : (j : ℕ) → j < net.links → (r'.link j).ons 0 ≡ (r.link j).ons 0 + length (arrive j)
    pub go : (i : ℕ) → i < net.links → (r'.link i).offs 0 ≡ (r.link i).offs 0 + k i
    pub cars : (j : ℕ) → j < net.links
        → (r'.link j).cars ≡ drop (k j) (r.link j).cars ++ map (λ x. record { exit = x; since = r.clock + 1 }) (arrive j)
    pub travel : (i : ℕ) → i < net.links → (r'.link i).travel ≡ lasted (final (leave i))
    pub queue : (j : ℕ) → j < net.links → r'.queue j ≡ drop (takes net r j) (r.queue j)

  -- the rows that the step leaves
  pub record RowsNow (rows rows' : List StepRow) : Type 0 where
    pub as_many : length rows' ≡ length rows
    pub filled : (i : ℕ) (d : StepRow) → i < net.links → slice_index_or rows' i d ≡ record { came = length (arrive i); left = k i; travel = lasted (final (leave i)) }
    pub beyond : (i : ℕ) (d : StepRow) → net.links ≤ i → slice_index_or rows' i d ≡ slice_index_or rows i d

-- and what the rule means behind its questions: one at each merge
pub record AskedNow (net : Net) (r : RunNow) (m m' : Meaning) : Type 0 where
  pub limits : (n t : ℕ) → m'.limits n t ≡ m.limits n t
  pub merge : (n i i' j : ℕ) → entering net n ≡ i ∷ i' ∷ [] → leaving net n ≡ j ∷ []
      → (asked : List Question) (q : Question) → m'.splits n asked q ≡ m.splits n (asks net r i i' j ∷ asked) q
  pub other : (n : ℕ) → ((i i' j : ℕ) → entering net n ≡ i ∷ i' ∷ [] → leaving net n ≢ j ∷ [])
      → (asked : List Question) (q : Question) → m'.splits n asked q ≡ m.splits n asked q

-- what the run holds after a booking of n vehicles for x at the entrance of the link j
pub record Queued (net : Net) (r : RunNow) (j x n : ℕ) (r' : RunNow) : Type 0 where
  pub clock : r'.clock ≡ r.clock
  pub link : (i : ℕ) → i < net.links → r'.link i ≡ r.link i
  pub here : r'.queue j ≡ r.queue j ++ replicate n x
  pub other : (k : ℕ) → k < net.links → (j ≢ k) → r'.queue k ≡ r.queue k

-- a run just opened
pub record Opened (net : Net) (r : RunNow) : Type 0 where
  pub clock : r.clock ≡ 0
  pub ons : (i q : ℕ) → i < net.links → (r.link i).ons q ≡ 0
  pub offs : (i q : ℕ) → i < net.links → (r.link i).offs q ≡ 0
  pub cars : (i : ℕ) → i < net.links → (r.link i).cars ≡ []
  pub travel : (i : ℕ) → i < net.links → (r.link i).travel ≡ None
  pub queue : (j : ℕ) → j < net.links → r.queue j ≡ []

-- The run is equal to the plain run for the calls so far (there is one, and no other: `Plain-run-there`, `One-plain-run`), and the promise holds.
pub record Moment (net : Net) (h : History) (r : RunNow) : Type 0 where
  pub sound : Sound net
  pub curves : Curves
  pub follows : Follows net curves h
  pub shows : Shows net curves h r
  pub promise : Promise net curves h

-- What a call makes of what the run holds: whatever calls led here, the plain run goes on along with it.
abbrev pub Carries : Net → RunNow → Event → RunNow → Type 0
Carries net r event r' = (h : History) → Moment net h r → Moment net (event ∷ h) r'

-- an accepted step
abbrev pub StepCarries : Type 0
StepCarries = (net : Net) (r r' : RunNow) (m m' : Meaning) (rows rows' : List StepRow) (out : ℕ → ℕ)
    → ((n : ℕ) → Passes net r m out n) → Moved net r out r' → RowsNow net r out rows rows' → AskedNow net r m m'
    → net.links ≤ length rows → r.clock < 1000000 → Lawful m → Carries net r (step m rows (told tt) m' rows') r'

-- an accepted booking
abbrev pub BookingCarries : Type 0
BookingCarries = (net : Net) (r r' : RunNow) (e j x i k n : ℕ)
    → Entrance net e j → Exit net x i → Served net e x k → 1 ≤ n → n ≤ 200 → length (r.queue j) + n ≤ 500
    → Queued net r j x n r' → Carries net r (book e x n (told tt)) r'

-- opening
abbrev pub OpeningStarts : Type 0
OpeningStarts = (net : Net) → Sound net → (r : RunNow) → Opened net r → Moment net [] r

-- a call that is refused, or that only asks, leaves the run as it is
abbrev pub Idle : Event → Type 0
Idle (book e x n (told u)) = ⊥
Idle (book e x n (refused k)) = Unit {0}
Idle (step m rows (told u) m' rows') = ⊥
Idle (step m rows (refused k) m' rows') = Unit {0}
Idle (ask_link i a) = Unit {0}
Idle (ask_entrance e a) = Unit {0}
Idle (ask_exit x a) = Unit {0}

abbrev pub IdleCarries : Type 0
IdleCarries = (net : Net) (r : RunNow) (event : Event) → Idle event
    → ((h : History) (at : Moment net h r) → Answers net at.curves h event) → Carries net r event r

-- what a question about a link tells
abbrev pub state_now : Net → RunNow → ℕ → LinkState
state_now net r i = record {
  on = (r.link i).ons 0;
  off = (r.link i).offs 0;
  arrived = (r.link i).ons (net.link i).free;
  queue = (r.link i).ons (net.link i).free - (r.link i).offs 0;
  travel = (r.link i).travel;
}

abbrev pub LinkTells : Type 0
LinkTells = (net : Net) (r : RunNow) (i : ℕ) → i < net.links → Carries net r (ask_link (i + 1) (told (state_now net r i))) r

-- those that wait for the entrance's link
abbrev pub EntranceTells : Type 0
EntranceTells = (net : Net) (r : RunNow) (e j : ℕ) → Entrance net e j → Carries net r (ask_entrance e (told (length (r.queue j)))) r

-- those that have left the exit's entering link
abbrev pub ExitTells : Type 0
ExitTells = (net : Net) (r : RunNow) (x i : ℕ) → Exit net x i → Carries net r (ask_exit x (told ((r.link i).offs 0))) r

-- Calls one after another, the last first: each carries on from what the run then holds.
abbrev pub Ran : Net → RunNow → History → RunNow → Type 0
Ran net r [] r' = r ≡ r'
Ran net r (event ∷ h) r'' = (r' : RunNow) × Ran net r h r' × Carries net r' event r''

-- so the plain run goes on along with them all
abbrev pub RanCarries : Type 0
RanCarries = (net : Net) (r r' : RunNow) (later h : History) → Ran net r later r' → Moment net h r → Moment net (later ++ h) r'

-- The promise at each moment of the calls h, which led to r: ahead of the first call, between two, and behind the last.
abbrev pub Throughout : Net → History → RunNow → Type 0
Throughout net h r = (later h₀ : History) → later ++ h₀ ≡ h → (r₀ : RunNow) × Moment net h₀ r₀ × Ran net r₀ later r

abbrev pub EachMoment : Type 0
EachMoment = (net : Net) → Sound net → (r r' : RunNow) → Opened net r → (h : History) → Ran net r h r' → Throughout net h r'

-- what code may count on: no difference of a step falls below 0, no line is over its part, no number is large
pub record SafeLink (net : Net) (r : RunNow) (i : ℕ) : Type 0 where
  pub sending : (r.link i).offs 0 ≤ (r.link i).ons ((net.link i).free - 1)
  pub queueing : (r.link i).offs 0 ≤ (r.link i).ons (net.link i).free
  pub taking : (r.link i).ons 0 ≤ (r.link i).offs ((net.link i).wave - 1) + (net.link i).storage
  pub arriving : (r.link i).ons ((net.link i).free - 1) ≤ (r.link i).ons 0
  pub waving : (r.link i).offs ((net.link i).wave - 1) ≤ (r.link i).offs 0
  pub holding : (r.link i).offs 0 + length (r.link i).cars ≡ (r.link i).ons 0
  pub room : length (r.link i).cars ≤ (net.link i).storage
  pub small : (r.link i).ons 0 ≤ 200 * r.clock
  pub since : AllByRecursion (λ v. v.since ≤ r.clock) (r.link i).cars

pub record Safe (net : Net) (r : RunNow) : Type 0 where
  pub early : r.clock ≤ 1000000
  pub link : (i : ℕ) → i < net.links → SafeLink net r i
  pub queue : (e j : ℕ) → Entrance net e j → length (r.queue j) ≤ 500

abbrev pub ReachedSafe : Type 0
ReachedSafe = (net : Net) (r : RunNow) (h : History) → Moment net h r → Safe net r

-- some calls led to what the run holds
abbrev pub Reached : Net → RunNow → Type 0
Reached net r = ∥ ((h : History) × Moment net h r) ∥₁
