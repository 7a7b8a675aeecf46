-- Lists of calls with their answers, and the histories that they make.
use Rattle.std.specs.Prelude.{◌≡◌, ℕ, suc, ◌<◌, ◌≤◌, ◌⊎◌, List, [], ◌∷◌, length, Some, None, Option, Ok, Err, Result, slice_index_or}
use Rattle.merge.specs.Rules.{Meaning}
use Rattle.network.specs.Net.{Net}
use Rattle.newell.specs.declared.records.StepRow.{StepRow}
use Rattle.newell.specs.declared.records.LinkState.{LinkState}
use Rattle.newell.specs.History.{History, Event, book, step, ask_link, ask_entrance, ask_exit, Reply, told, refused}
use Rattle.newell.specs.Now.{RunNow, Carries, Opened, Throughout}
use Rattle.run.specs.Opens.{entries_for}
use Rattle.run.specs.Stores.{number}
use Rattle.run.specs.declared.store.Refusal.{Refusal}
use Rattle.run.specs.declared.store.Refusal.TheVariants.{SmallArea, FewRows}
use Rattle.script.specs.declared.call.Call.{Call}
use Rattle.script.specs.declared.call.Call.TheVariants.{Book, Step, Link, Entrance, Exit}
use Rattle.script.specs.declared.call.Outcome.{Outcome}
use Rattle.script.specs.declared.call.Outcome.TheVariants.{Done, Waiting, Gone}
use Rattle.script.specs.declared.call.Outcome.TheVariants as outcome

-- what an answer says of a booking or a step, of a link, and of an entrance or an exit
abbrev pub SaysDone : Result Outcome Refusal → Reply (Unit {0}) → Type 0
SaysDone (Ok Done) r = r ≡ told tt
SaysDone (Ok o) r = ⊥
SaysDone (Err q) r = r ≡ refused (number q)

abbrev pub SaysLink : Result Outcome Refusal → Reply LinkState → Type 0
SaysLink (Ok (outcome.Link s)) r = r ≡ told s
SaysLink (Ok o) r = ⊥
SaysLink (Err q) r = r ≡ refused (number q)

abbrev pub SaysWaiting : Result Outcome Refusal → Reply ℕ → Type 0
SaysWaiting (Ok (Waiting n)) r = r ≡ told n
SaysWaiting (Ok o) r = ⊥
SaysWaiting (Err q) r = r ≡ refused (number q)

abbrev pub SaysGone : Result Outcome Refusal → Reply ℕ → Type 0
SaysGone (Ok (Gone n)) r = r ≡ told n
SaysGone (Ok o) r = ⊥
SaysGone (Err q) r = r ≡ refused (number q)

-- an event is the call with the answer; a step's is handed the rule's meaning m and the rows, and leaves m' and rows'
pub data Makes (m : Meaning) (rows : List StepRow) (m' : Meaning) (rows' : List StepRow) : Call → Result Outcome Refusal → Event → Type 0 where
  booking : (e x n : ℕ) (a : Result Outcome Refusal) (r : Reply (Unit {0})) → SaysDone a r → m' ≡ m → rows' ≡ rows → Makes m rows m' rows' (Book e x n) a (book e x n r)
  stepping : (a : Result Outcome Refusal) (r : Reply (Unit {0})) → SaysDone a r → Makes m rows m' rows' Step a (step m rows r m' rows')
  asking_link : (n : ℕ) (a : Result Outcome Refusal) (r : Reply LinkState) → SaysLink a r → m' ≡ m → rows' ≡ rows → Makes m rows m' rows' (Link n) a (ask_link n r)
  asking_entrance : (e : ℕ) (a : Result Outcome Refusal) (r : Reply ℕ) → SaysWaiting a r → m' ≡ m → rows' ≡ rows → Makes m rows m' rows' (Entrance e) a (ask_entrance e r)
  asking_exit : (x : ℕ) (a : Result Outcome Refusal) (r : Reply ℕ) → SaysGone a r → m' ≡ m → rows' ≡ rows → Makes m rows m' rows' (Exit x) a (ask_exit x r)

-- one call: its event takes run and plain run on together
pub record Called (net : Net) (m : Meaning) (rows : List StepRow) (r : RunNow) (c : Call) (a : Result Outcome Refusal) (m' : Meaning) (rows' : List StepRow) (r' : RunNow) : Type 0 where
  pub event : Event
  pub makes : Makes m rows m' rows' c a event
  pub carries : Carries net r event r'

-- The first n calls of a list, one after another: each is handed what the one before it left, and the run goes on from what it then held.
-- The history has the last of them first.
pub data Played (net : Net) (m₀ : Meaning) (rows₀ : List StepRow) (r₀ : RunNow) (calls : List Call) (answers : List (Option (Result Outcome Refusal))) : ℕ → History → Meaning → List StepRow → RunNow → Type 0 where
  none : Played net m₀ rows₀ r₀ calls answers 0 [] m₀ rows₀ r₀
  more : {n : ℕ} {h : History} {m : Meaning} {rows : List StepRow} {r : RunNow} (m' : Meaning) (rows' : List StepRow) (r' : RunNow) (event : Event) (a : Result Outcome Refusal)
      → Played net m₀ rows₀ r₀ calls answers n h m rows r
      → slice_index_or answers n None ≡ Some a → Makes m rows m' rows' (slice_index_or calls n Step) a event
      → Carries net r event r'
      → Played net m₀ rows₀ r₀ calls answers (suc n) (event ∷ h) m' rows' r'

-- What a whole list of calls makes, on a run just opened: each call has its answer, and at each moment (ahead of the first call, between two,
-- behind the last) the run is equal to the plain run for the calls so far, and the promise holds.
pub record Promised (net : Net) (m : Meaning) (rows : List StepRow) (calls : List Call) (answers : List (Option (Result Outcome Refusal))) (m' : Meaning) (rows' : List StepRow) : Type 0 where
  pub history : History
  pub first : RunNow
  pub last : RunNow
  pub opened : Opened net first
  pub played : Played net m rows first calls answers (length calls) history m' rows' last
  pub moments : Throughout net history last

-- why a list is refused: fewer places for answers than calls, else fewer vehicle entries than opening needs
abbrev pub Declined : Net → (area calls answers : ℕ) → Refusal → Type 0
Declined net area calls answers q = ((q ≡ FewRows) × (answers < calls)) ⊎ ((q ≡ SmallArea) × (calls ≤ answers) × (area < entries_for net))
