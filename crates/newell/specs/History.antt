-- A run's calls with their answers, and the plain run that follows them.
use Rattle.newell.specs.declared.records.LinkState.{LinkState}
use Rattle.newell.specs.declared.records.Vehicle.{Vehicle}
use Rattle.merge.specs.declared.question.Question.{Question}
use Rattle.newell.specs.declared.records.StepRow.{StepRow}
use Rattle.std.specs.Prelude.{◌≡◌, ℕ, zero, suc, ◌+◌, ◌-◌, ◌<◌, ◌≤◌, cond, ◌&&◌, ◌⊎◌, List, [], ◌∷◌, ◌++◌, length, get_or, replicate, Some, None, Option, ◌==◌, ◌≢◌, nat_le, slice_index_or}
use Rattle.network.specs.Net.{Net, Entrance, Exit, Served, entering, leaving}
use Rattle.merge.specs.Rules.{Meaning, Lawful}
use Rattle.newell.specs.Plain.{Curves, U, V, waiting, leavers, question, Law}

-- what a call tells, or the number of its refusal
pub data Reply (A : Type 0) : Type 0 where
  told : A → Reply A
  refused : ℕ → Reply A

-- a call with its answer; of a step, also the rule's meaning and the rows handed in and left
pub data Event : Type 0 where
  book : (e x n : ℕ) → Reply (Unit {0}) → Event
  step : (m : Meaning) (rows : List StepRow) → Reply (Unit {0}) → (m' : Meaning) (rows' : List StepRow) → Event
  -- by the link's number, one more than its place
  ask_link : ℕ → Reply LinkState → Event
  ask_entrance : ℕ → Reply ℕ → Event
  ask_exit : ℕ → Reply ℕ → Event

-- the events so far, the last first
abbrev pub History : Type 0
History = List Event

-- the calls alone
pub data Call : Type 0 where
  to_book : (e x n : ℕ) → Call
  to_step : (m : Meaning) (rows : List StepRow) → Call
  to_ask_link : ℕ → Call
  to_ask_entrance : ℕ → Call
  to_ask_exit : ℕ → Call

abbrev pub call : Event → Call
call (book e x n r) = to_book e x n
call (step m rows r m' rows') = to_step m rows
call (ask_link n r) = to_ask_link n
call (ask_entrance e r) = to_ask_entrance e
call (ask_exit x r) = to_ask_exit x

-- the clock counts accepted steps
abbrev pub clock : History → ℕ
clock [] = 0
clock (book e x n r ∷ h) = clock h
clock (step m rows (told u) m' rows' ∷ h) = clock h + 1
clock (step m rows (refused k) m' rows' ∷ h) = clock h
clock (ask_link i r ∷ h) = clock h
clock (ask_entrance e r ∷ h) = clock h
clock (ask_exit x r ∷ h) = clock h

-- the exits of those booked at the node e while the clock was at most t, in booking order
abbrev pub booked : History → ℕ → ℕ → List ℕ
booked [] t e = []
booked (book e' x n (told u) ∷ h) t e = booked h t e ++ cond (nat_le (clock h) t && e' == e) (replicate n x) []
booked (book e' x n (refused k) ∷ h) t e = booked h t e
booked (step m rows r m' rows' ∷ h) t e = booked h t e
booked (ask_link i r ∷ h) t e = booked h t e
booked (ask_entrance e' r ∷ h) t e = booked h t e
booked (ask_exit x r ∷ h) t e = booked h t e

-- the counts booked for the exit x
abbrev pub booked_for : History → ℕ → ℕ
booked_for [] x = 0
booked_for (book e x' n (told u) ∷ h) x = booked_for h x + cond (x' == x) n 0
booked_for (book e x' n (refused k) ∷ h) x = booked_for h x
booked_for (step m rows r m' rows' ∷ h) x = booked_for h x
booked_for (ask_link i r ∷ h) x = booked_for h x
booked_for (ask_entrance e r ∷ h) x = booked_for h x
booked_for (ask_exit x' r ∷ h) x = booked_for h x

-- a row that tells of nobody
abbrev pub blank : StepRow
blank = record { came = 0; left = 0; travel = None }

-- those gone over the link i: the sum of what left it, in the rows that accepted steps left
abbrev pub gone_by : History → ℕ → ℕ
gone_by [] i = 0
gone_by (book e x n r ∷ h) i = gone_by h i
gone_by (step m rows (told u) m' rows' ∷ h) i = gone_by h i + (get_or rows' i blank).left
gone_by (step m rows (refused k) m' rows' ∷ h) i = gone_by h i
gone_by (ask_link i' r ∷ h) i = gone_by h i
gone_by (ask_entrance e r ∷ h) i = gone_by h i
gone_by (ask_exit x r ∷ h) i = gone_by h i

-- the meaning of the rule handed in at the accepted step from the clock t
abbrev pub handed : History → ℕ → Meaning
handed [] t = record { limits = λ n k. (0, 0); splits = λ n asked q. (0, 0) }
handed (book e x n r ∷ h) t = handed h t
handed (step m rows (told u) m' rows' ∷ h) t = cond (t == clock h) m (handed h t)
handed (step m rows (refused k) m' rows' ∷ h) t = handed h t
handed (ask_link i r ∷ h) t = handed h t
handed (ask_entrance e r ∷ h) t = handed h t
handed (ask_exit x r ∷ h) t = handed h t

-- The checks run down a list of needs: the first that is not met refuses, with its number; where all are met, the answer is as `then` says.
abbrev pub Checked : {A : Type 0} → List (ℕ × Type 0) → (A → Type 0) → Reply A → Type 0
Checked [] then (told a) = then a
Checked [] then (refused k) = ⊥
Checked (need ∷ needs) then r = ((need.1 → ⊥) × (r ≡ refused need.0)) ⊎ (need.1 × Checked needs then r)

-- the last of a list
abbrev pub final : {A : Type 0} → List A → Option A
final [] = None
final (x ∷ []) = Some x
final (x ∷ y ∷ ys) = final (y ∷ ys)

module _ (net : Net) (c : Curves) where
  -- the travel time of the last vehicle to leave a link in the step from t, absent if none left: t + 1 less the clock at which it came on
  abbrev pub travelled : ℕ → Option Vehicle → Option ℕ
  travelled t None = None
  travelled t (Some v) = Some (t + 1 - v.since)

  abbrev pub travel : ℕ → ℕ → Option ℕ
  travel i t = travelled t (final (leavers net c i t))

  -- that of the last step, if there was one
  abbrev pub last_travel : ℕ → ℕ → Option ℕ
  last_travel i zero = None
  last_travel i (suc t) = travel i t

  -- the row of the link i for the step from t, and what a question about it tells at the clock t
  abbrev pub row_of : ℕ → ℕ → StepRow
  row_of i t = record { came = U net c i (t + 1) - U net c i t; left = V net c i (t + 1) - V net c i t; travel = travel i t }

  abbrev pub state_of : ℕ → ℕ → LinkState
  state_of i t = record { on = U net c i t; off = V net c i t; arrived = U net c i (t - (net.link i).free); queue = U net c i (t - (net.link i).free) - V net c i t; travel = last_travel i t }

  -- the rows that the step from t leaves: one filled for each link, and those beyond as they were
  pub record Filled (t : ℕ) (rows rows' : List StepRow) : Type 0 where
    pub as_many : length rows' ≡ length rows
    pub filled : (i : ℕ) (d : StepRow) → i < net.links → slice_index_or rows' i d ≡ row_of i t
    pub beyond : (i : ℕ) (d : StepRow) → net.links ≤ i → slice_index_or rows' i d ≡ slice_index_or rows i d

  -- what a rule means after the questions of the step from t: one at each merge
  pub record Asked (t : ℕ) (m m' : Meaning) : Type 0 where
    pub limits : (n k : ℕ) → m'.limits n k ≡ m.limits n k
    pub merge : (n i i' j : ℕ) → entering net n ≡ i ∷ i' ∷ [] → leaving net n ≡ j ∷ []
        → (asked : List Question) (q : Question) → m'.splits n asked q ≡ m.splits n (question net c i i' j t ∷ asked) q
    pub other : (n : ℕ) → ((i i' j : ℕ) → entering net n ≡ i ∷ i' ∷ [] → leaving net n ≢ j ∷ [])
        → (asked : List Question) (q : Question) → m'.splits n asked q ≡ m.splits n asked q

  -- The answer to each call, behind the history h, that the plain run with these curves gives. It refuses: 32 no such entrance, 33 no such exit, 34 pair
  -- not served, 35 count not 1 to 200, 36 waiting and count over 500; 39 fewer rows than links, 37 clock is 1,000,000; 38 no such link. An accepted step
  -- keeps the law under the rule that is handed in; a refused one leaves rule and rows as they were.
  abbrev pub Answers : History → Event → Type 0
  Answers h (book e x n r) = Checked
      ((32, ((j : ℕ) × Entrance net e j))
      ∷ (33, ((i : ℕ) × Exit net x i))
      ∷ (34, ((k : ℕ) × Served net e x k))
      ∷ (35, ((1 ≤ n) × (n ≤ 200)))
      ∷ (36, ((j : ℕ) → Entrance net e j → length (waiting net c (booked h (clock h) e) j (clock h)) + n ≤ 500))
      ∷ [])
      (λ u. Unit {0}) r
  Answers h (step m rows r m' rows') = Checked
      ((39, (net.links ≤ length rows))
      ∷ (37, (clock h < 1000000))
      ∷ [])
      (λ u. Law net c (booked h (clock h)) m (clock h) × Filled (clock h) rows rows' × Asked (clock h) m m' × Lawful m) r
      × ((k : ℕ) → r ≡ refused k → (rows' ≡ rows) × (m' ≡ m))
  Answers h (ask_link n r) = Checked ((38, ((1 ≤ n) × (n ≤ net.links))) ∷ []) (λ s. s ≡ state_of (n - 1) (clock h)) r
  Answers h (ask_entrance e r) = Checked ((32, ((j : ℕ) × Entrance net e j)) ∷ [])
      (λ k. (j : ℕ) → Entrance net e j → k ≡ length (waiting net c (booked h (clock h) e) j (clock h))) r
  Answers h (ask_exit x r) = Checked ((33, ((i : ℕ) × Exit net x i)) ∷ []) (λ k. (i : ℕ) → Exit net x i → k ≡ gone_by h i) r

  -- new: nobody has come on a link
  pub record New : Type 0 where
    pub came : (i : ℕ) → i < net.links → c.came i 0 ≡ []
    pub left : (i : ℕ) → i < net.links → c.left i 0 ≡ 0

  -- These curves are the plain run's, at the clocks up to now, for the calls so far.
  abbrev pub Follows : History → Type 0
  Follows [] = New
  Follows (event ∷ h) = Follows h × Answers h event
