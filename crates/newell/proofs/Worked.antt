-- The worked cases.
use Rattle.newell.specs.declared.records.Vehicle.{Vehicle}
use Rattle.newell.specs.declared.records.StepRow.{StepRow}
use Rattle.std.proofs.Common.{◌≡◌, ℕ, zero, suc, ◌+◌, ◌<◌, ◌≤◌, Bool, true, false, cond, ◌⊎◌, List, [], ◌∷◌, ◌++◌, map, length, get_or, take, drop, replicate, Some, count_by, sym, refl, ap, ◌∙◌, subst, ap₂, subst₂, inl, inr, arith, lit<, lit≤, length-drop, eq-eqb, ne_eqb}
use Rattle.std.proofs.lemmas.List.Sums.{length-filter}
use Rattle.std.proofs.lemmas.List.{take-map}
use Rattle.std.proofs.lemmas.Bool.{cases_lt}
use Rattle.newell.proofs.Totals.{sum_map}
use Rattle.network.specs.Net.{Net, Sound, SoundLink, Kind, entrance, exit, merge, entering, leaving, there, along, next, is}
use Rattle.network.proofs.Places.{In, entered, left_from}
use Rattle.merge.specs.Sharing.{fair_split, fair_meaning}
use Rattle.merge.specs.Laws.{fair_lawful}
use Rattle.newell.specs.Plain.{Curves, V, S, R, on, exits, towards, waiting, arrivals, question, Passable, Law}
use Rattle.newell.specs.History.{History, book, ask_link, ask_entrance, ask_exit, told, clock, booked, gone_by, blank, row_of, Filled, Asked, Answers, Follows}
use Rattle.newell.specs.Promise.{Empty, Agree}
use Rattle.newell.specs.Corridor.{road, corridor, tells, rows_at, step_from, worked, CorridorWorked, DivergeWorked}
use Rattle.newell.proofs.Calls.{one_plain_run}

sound : Sound corridor
sound = record {
  nodes_least = lit≤ tt;
  nodes_most = lit≤ tt;
  links_least = lit≤ tt;
  links_most = lit≤ tt;
  link = links;
  kind = kinds;
  route = λ n x k e. absurd (let z : ◌≡◌ {A = ℕ} 0 1 = cc in omega arith);
}
  where
    links : (i : ℕ) → i < 3 → SoundLink 4 (road i)
    links zero h = record {
      from_node = lit≤ tt;
      upward = lit< tt;
      to_node = lit≤ tt;
      free_least = lit≤ tt;
      free_most = lit≤ tt;
      wave_least = lit≤ tt;
      wave_most = lit≤ tt;
      capacity_least = lit≤ tt;
      capacity_most = lit≤ tt;
      storage_least = lit≤ tt;
      storage_most = lit≤ tt;
    }
    links (suc zero) h = record {
      from_node = lit≤ tt;
      upward = lit< tt;
      to_node = lit≤ tt;
      free_least = lit≤ tt;
      free_most = lit≤ tt;
      wave_least = lit≤ tt;
      wave_most = lit≤ tt;
      capacity_least = lit≤ tt;
      capacity_most = lit≤ tt;
      storage_least = lit≤ tt;
      storage_most = lit≤ tt;
    }
    links (suc (suc i)) h = record {
      from_node = lit≤ tt;
      upward = lit< tt;
      to_node = lit≤ tt;
      free_least = lit≤ tt;
      free_most = lit≤ tt;
      wave_least = lit≤ tt;
      wave_most = lit≤ tt;
      capacity_least = lit≤ tt;
      capacity_most = lit≤ tt;
      storage_least = lit≤ tt;
      storage_most = lit≤ tt;
    }

    kinds : (n : ℕ) → 1 ≤ n → n ≤ 4 → Kind corridor n
    kinds zero a b = absurd (omega arith)
    kinds (suc zero) a b = entrance 0 refl refl
    kinds (suc (suc zero)) a b = entrance 1 refl refl
    kinds (suc (suc (suc zero))) a b = merge 0 1 2 refl refl
    kinds (suc (suc (suc (suc zero)))) a b = exit 2 refl refl
    kinds (suc (suc (suc (suc (suc n))))) a b = absurd (omega arith)

-- the nodes of the corridor
ends : (n i : ℕ) → entering corridor n ≡ i ∷ [] → leaving corridor n ≡ [] → i ≡ 2
ends n i e l = go i (entered corridor n i (subst (In i) (sym e) (inl refl))) e
  where
    go : (i : ℕ) → (i < 3) × ((road i).to ≡ n) → entering corridor n ≡ i ∷ [] → i ≡ 2
    go zero q e = let z : entering corridor 3 ≡ 0 ∷ [] = subst (λ n. entering corridor n ≡ 0 ∷ []) (sym q.1) e in let y : ◌≡◌ {A = ℕ} 0 1 = cc in absurd (omega arith)
    go (suc zero) q e = let z : entering corridor 3 ≡ 1 ∷ [] = subst (λ n. entering corridor n ≡ 1 ∷ []) (sym q.1) e in let y : ◌≡◌ {A = ℕ} 0 1 = cc in absurd (omega arith)
    go (suc (suc i)) q e = omega arith

passes : (n i j : ℕ) → entering corridor n ≡ i ∷ [] → leaving corridor n ≡ j ∷ [] → ⊥
passes n i j e l = go i (entered corridor n i (subst (In i) (sym e) (inl refl))) e
  where
    go : (i : ℕ) → (i < 3) × ((road i).to ≡ n) → entering corridor n ≡ i ∷ [] → ⊥
    go zero q e = let z : entering corridor 3 ≡ 0 ∷ [] = subst (λ n. entering corridor n ≡ 0 ∷ []) (sym q.1) e in let y : ◌≡◌ {A = ℕ} 0 1 = cc in omega arith
    go (suc zero) q e = let z : entering corridor 3 ≡ 1 ∷ [] = subst (λ n. entering corridor n ≡ 1 ∷ []) (sym q.1) e in let y : ◌≡◌ {A = ℕ} 0 1 = cc in omega arith
    go (suc (suc i)) q e = let z : leaving corridor 4 ≡ j ∷ [] = subst (λ n. leaving corridor n ≡ j ∷ []) (sym q.1) l in let y : ◌≡◌ {A = ℕ} 0 1 = cc in omega arith

merges : (n i i' j : ℕ) → entering corridor n ≡ i ∷ i' ∷ [] → leaving corridor n ≡ j ∷ [] → (i ≡ 0) × (i' ≡ 1) × (j ≡ 2) × (n ≡ 3)
merges n i i' j e l = go i (entered corridor n i (subst (In i) (sym e) (inl refl))) e
  where
    at3 : (k : ℕ) → 3 ≡ n → entering corridor n ≡ k ∷ i' ∷ [] → (k ≡ 0) × (i' ≡ 1) × (j ≡ 2) × (n ≡ 3)
    at3 k q e = let z : entering corridor 3 ≡ k ∷ i' ∷ [] = subst (λ n. entering corridor n ≡ k ∷ i' ∷ []) (sym q) e in
        let y : leaving corridor 3 ≡ j ∷ [] = subst (λ n. leaving corridor n ≡ j ∷ []) (sym q) l in (sym (let a : 0 ≡ k = cc in a), sym (let a : 1 ≡ i' = cc in a), sym (let a : 2 ≡ j = cc in a), sym q)

    go : (i : ℕ) → (i < 3) × ((road i).to ≡ n) → entering corridor n ≡ i ∷ i' ∷ [] → (i ≡ 0) × (i' ≡ 1) × (j ≡ 2) × (n ≡ 3)
    go zero q e = at3 zero q.1 e
    go (suc zero) q e = at3 (suc zero) q.1 e
    go (suc (suc k)) q e = let z : entering corridor 4 ≡ suc (suc k) ∷ i' ∷ [] = subst (λ n. entering corridor n ≡ suc (suc k) ∷ i' ∷ []) (sym q.1) e in let y : ◌≡◌ {A = ℕ} 0 1 = cc in absurd (omega arith)

branches : (n j j' : ℕ) → leaving corridor n ≡ j ∷ j' ∷ [] → ⊥
branches n j j' l = go j (left_from corridor n j (subst (In j) (sym l) (inl refl))) l
  where
    go : (j : ℕ) → (j < 3) × ((road j).from ≡ n) → leaving corridor n ≡ j ∷ j' ∷ [] → ⊥
    go zero q l = let z : leaving corridor 1 ≡ 0 ∷ j' ∷ [] = subst (λ n. leaving corridor n ≡ 0 ∷ j' ∷ []) (sym q.1) l in let y : ◌≡◌ {A = ℕ} 0 1 = cc in omega arith
    go (suc zero) q l = let z : leaving corridor 2 ≡ 1 ∷ j' ∷ [] = subst (λ n. leaving corridor n ≡ 1 ∷ j' ∷ []) (sym q.1) l in let y : ◌≡◌ {A = ℕ} 0 1 = cc in omega arith
    go (suc (suc k)) q l = let z : leaving corridor 3 ≡ suc (suc k) ∷ j' ∷ [] = subst (λ n. leaving corridor n ≡ suc (suc k) ∷ j' ∷ []) (sym q.1) l in let y : ◌≡◌ {A = ℕ} 0 1 = cc in omega arith

-- the vehicles that come on each link, by the clock
car : ℕ → Vehicle
car t = record { exit = 4; since = t }

all : ℕ → List Vehicle
all zero = car 1 ∷ car 1 ∷ car 1 ∷ car 1 ∷ car 2 ∷ car 2 ∷ []
all (suc zero) = car 1 ∷ car 1 ∷ car 2 ∷ []
all (suc (suc i)) = car 2 ∷ car 2 ∷ car 2 ∷ car 3 ∷ car 3 ∷ car 3 ∷ car 4 ∷ car 4 ∷ car 6 ∷ []

ons : ℕ → ℕ → ℕ
ons zero t = get_or (0 ∷ 4 ∷ 6 ∷ 6 ∷ 6 ∷ 6 ∷ 6 ∷ 6 ∷ 6 ∷ []) t 0
ons (suc zero) t = get_or (0 ∷ 2 ∷ 3 ∷ 3 ∷ 3 ∷ 3 ∷ 3 ∷ 3 ∷ 3 ∷ []) t 0
ons (suc (suc i)) t = get_or (0 ∷ 0 ∷ 3 ∷ 6 ∷ 8 ∷ 8 ∷ 9 ∷ 9 ∷ 9 ∷ []) t 0

offs : ℕ → ℕ → ℕ
offs zero t = get_or (0 ∷ 0 ∷ 2 ∷ 4 ∷ 5 ∷ 5 ∷ 6 ∷ 6 ∷ 6 ∷ []) t 0
offs (suc zero) t = get_or (0 ∷ 0 ∷ 1 ∷ 2 ∷ 3 ∷ 3 ∷ 3 ∷ 3 ∷ 3 ∷ []) t 0
offs (suc (suc i)) t = get_or (0 ∷ 0 ∷ 0 ∷ 0 ∷ 3 ∷ 6 ∷ 8 ∷ 8 ∷ 9 ∷ []) t 0

curves : Curves
curves = record { came = λ i t. take (ons i t) (all i); left = offs }

-- what the law and the rows of the step from t come to on this corridor
Arrive : (ℕ → List ℕ) → ℕ → ℕ → Type 0
Arrive b t j = curves.came j (t + 1) ≡ curves.came j t ++ map (λ x. record { exit = x; since = t + 1 }) (arrivals corridor curves (b (road j).from) j t)

split : ℕ → ℕ × ℕ
split t = fair_split (question corridor curves 0 1 2 t)

law_from : (b : ℕ → List ℕ) (t : ℕ) → Arrive b t 0 → Arrive b t 1 → Arrive b t 2 → V corridor curves 2 (t + 1) ≡ V corridor curves 2 t + S corridor curves 2 t
    → V corridor curves 0 (t + 1) ≡ V corridor curves 0 t + (split t).0 → V corridor curves 1 (t + 1) ≡ V corridor curves 1 t + (split t).1
    → Law corridor curves b fair_meaning t
unfolding Arrive split
law_from b t a₀ a₁ a₂ x g₀ g₁ = record {
  arrive = arrive;
  exit = λ n i e l. subst (λ i. V corridor curves i (t + 1) ≡ V corridor curves i t + S corridor curves i t) (sym (ends n i e l)) x;
  mainline = λ n i j e l. absurd (passes n i j e l);
  merge = λ n i i' j e l. let q = merges n i i' j e l in
      subst₂ (λ n i. (V corridor curves i (t + 1) ≡ V corridor curves i t + (fair_meaning.splits n [] (question corridor curves i i' j t)).0)
      × (V corridor curves i' (t + 1) ≡ V corridor curves i' t + (fair_meaning.splits n [] (question corridor curves i i' j t)).1)) (sym q.3) (sym q.0)
      (subst₂ (λ i' j. (V corridor curves 0 (t + 1) ≡ V corridor curves 0 t + (fair_meaning.splits 3 [] (question corridor curves 0 i' j t)).0)
      × (V corridor curves i' (t + 1) ≡ V corridor curves i' t + (fair_meaning.splits 3 [] (question corridor curves 0 i' j t)).1)) (sym q.1) (sym q.2)
      (g₀, g₁));
  diverge = λ n i j j' e l. absurd (branches n j j' l);
}
  where
    arrive : (j : ℕ) → j < 3 → Arrive b t j
    arrive zero k = a₀
    arrive (suc zero) k = a₁
    arrive (suc (suc zero)) k = a₂
    arrive (suc (suc (suc j))) k = absurd (omega arith)

asked : (t : ℕ) → Asked corridor curves t fair_meaning fair_meaning
asked t = record {
  limits = λ n k. refl;
  merge = λ n i i' j e l past q. refl;
  other = λ n f past q. refl;
}

filled_from : (t : ℕ) → rows_at t ≡ row_of corridor curves 0 t ∷ row_of corridor curves 1 t ∷ row_of corridor curves 2 t ∷ [] → Filled corridor curves t (replicate 3 blank) (rows_at t)
filled_from t e = subst (Filled corridor curves t (replicate 3 blank)) (sym e) (record { as_many = refl; filled = filled; beyond = beyond })
  where
    filled : (i : ℕ) (d : StepRow) → i < 3 → get_or (row_of corridor curves 0 t ∷ row_of corridor curves 1 t ∷ row_of corridor curves 2 t ∷ []) i d ≡ row_of corridor curves i t
    filled zero d k = refl
    filled (suc zero) d k = refl
    filled (suc (suc zero)) d k = refl
    filled (suc (suc (suc i))) d k = absurd (omega arith)

    beyond : (i : ℕ) (d : StepRow) → 3 ≤ i → get_or (row_of corridor curves 0 t ∷ row_of corridor curves 1 t ∷ row_of corridor curves 2 t ∷ []) i d ≡ get_or (replicate 3 blank) i d
    beyond zero d k = absurd (omega arith)
    beyond (suc zero) d k = absurd (omega arith)
    beyond (suc (suc zero)) d k = absurd (omega arith)
    beyond (suc (suc (suc i))) d k = refl

answered : (h : History) → clock h < 1000000 → Law corridor curves (booked h (clock h)) fair_meaning (clock h)
    → rows_at (clock h) ≡ row_of corridor curves 0 (clock h) ∷ row_of corridor curves 1 (clock h) ∷ row_of corridor curves 2 (clock h) ∷ []
    → Answers corridor curves h (step_from (clock h))
answered h b law rows = (inr (lit≤ tt, inr (b, (law, filled_from (clock h) rows, asked (clock h), fair_lawful))), λ k e. absurd (let z : ◌≡◌ {A = ℕ} 0 1 = cc in omega arith))

fits : (b : List ℕ) (u n : ℕ) → b ≡ [] → n ≤ 500 → length (drop u b) + n ≤ 500
fits b u n e l = rw e (simp length-drop (omega arith))

-- the calls up to each step, and up to the questions
abbrev h₀ : History
h₀ = book 2 4 3 (told tt) ∷ book 1 4 6 (told tt) ∷ []

abbrev h₄ : History
h₄ = step_from 3 ∷ step_from 2 ∷ step_from 1 ∷ step_from 0 ∷ h₀

abbrev links : History
links = ask_link 3 (told (tells 8 3 3 0 (Some 2))) ∷ ask_link 2 (told (tells 3 3 3 0 (Some 2))) ∷ ask_link 1 (told (tells 6 5 6 1 (Some 2))) ∷ h₄

abbrev nodes : History
nodes = ask_exit 4 (told 3) ∷ ask_entrance 2 (told 0) ∷ ask_entrance 1 (told 0) ∷ links

follows₀ : Follows corridor curves (book 2 4 3 (told tt) ∷ book 1 4 6 (told tt) ∷ [])
unfolding curves ons offs all
follows₀ = (
  (
    record { came = came; left = left },
    inr ((0, (refl, refl)), inr ((2, (refl, refl)), inr ((2, (0, (refl, refl), along refl (there refl refl))), inr ((lit≤ tt, lit≤ tt), inr ((λ j w. fits [] _ 6 refl (lit≤ tt)), tt))))),
  ),
  inr ((1, (refl, refl)), inr ((2, (refl, refl)), inr ((2, (1, (refl, refl), along refl (there refl refl))), inr ((lit≤ tt, lit≤ tt), inr ((λ j w. fits [] _ 3 refl (lit≤ tt)), tt))))),
)
  where
    came : (i : ℕ) → i < 3 → curves.came i 0 ≡ []
    came zero k = refl
    came (suc zero) k = refl
    came (suc (suc i)) k = refl

    left : (i : ℕ) → i < 3 → curves.left i 0 ≡ 0
    left zero k = refl
    left (suc zero) k = refl
    left (suc (suc i)) k = refl

four : Follows corridor curves h₄
unfolding curves ons offs all car Arrive split
four = (
  (
    (
      (follows₀, answered h₀ (lit< tt) (law_from _ 0 refl refl refl refl refl refl) refl),
      answered (step_from 0 ∷ h₀) (lit< tt) (law_from _ 1 refl refl refl refl refl refl) refl,
    ),
    answered (step_from 1 ∷ step_from 0 ∷ h₀) (lit< tt) (law_from _ 2 refl refl refl refl refl refl) refl,
  ),
  answered (step_from 2 ∷ step_from 1 ∷ step_from 0 ∷ h₀) (lit< tt) (law_from _ 3 refl refl refl refl refl refl) refl,
)

questions : Follows corridor curves nodes
unfolding curves ons offs all car
questions = (
  (
    (
      (((four, inr ((lit≤ tt, lit≤ tt), refl)), inr ((lit≤ tt, lit≤ tt), refl)), inr ((lit≤ tt, lit≤ tt), refl)),
      inr ((0, (refl, refl)), λ j w. let z : 0 ∷ [] ≡ j ∷ [] = w.1 in let e : 0 ≡ j = cc in subst (λ j. 0 ≡ length (waiting corridor curves (replicate 6 4) j 4)) e refl),
    ),
    inr ((1, (refl, refl)), λ j w. let z : 1 ∷ [] ≡ j ∷ [] = w.1 in let e : 1 ≡ j = cc in subst (λ j. 0 ≡ length (waiting corridor curves (replicate 3 4) j 4)) e refl),
  ),
  inr ((2, (refl, refl)), λ i w. let z : 2 ∷ [] ≡ i ∷ [] = w.0 in let e : 2 ≡ i = cc in subst (λ i. 3 ≡ gone_by h₄ i) e refl),
)

follows : Follows corridor curves worked
unfolding curves ons offs all car Arrive split
follows = (
  (
    (
      (questions, answered nodes (lit< tt) (law_from _ 4 refl refl refl refl refl refl) refl),
      answered (step_from 4 ∷ nodes) (lit< tt) (law_from _ 5 refl refl refl refl refl refl) refl,
    ),
    answered (step_from 5 ∷ step_from 4 ∷ nodes) (lit< tt) (law_from _ 6 refl refl refl refl refl refl) refl,
  ),
  answered (step_from 6 ∷ step_from 5 ∷ step_from 4 ∷ nodes) (lit< tt) (law_from _ 7 refl refl refl refl refl refl) refl,
)

-- a run that agrees with these curves is empty where they are
same_empty : (c d : Curves) (b : ℕ → List ℕ) (t : ℕ) → Agree corridor c d t → Empty corridor c b t → Empty corridor d b t
same_empty c d b t a e = record {
  none_waits = λ j k. ap (λ vs. drop (length vs) (b (road j).from)) (sym (a t j (omega arith) k).0) ∙ e.none_waits j k;
  none_drives = λ i k. ap₂ drop (sym (a t i (omega arith) k).1) (sym (a t i (omega arith) k).0) ∙ e.none_drives i k;
}

agree : (c : Curves) → Follows corridor c worked → Agree corridor curves c 8
agree c f = (one_plain_run corridor sound worked worked curves c refl follows f).1

empty : Empty corridor curves (booked worked 8) 8
unfolding curves ons offs all
empty = record { none_waits = none_waits; none_drives = none_drives }
  where
    none_waits : (j : ℕ) → j < 3 → waiting corridor curves (booked worked 8 (road j).from) j 8 ≡ []
    none_waits zero k = refl
    none_waits (suc zero) k = refl
    none_waits (suc (suc j)) k = refl

    none_drives : (i : ℕ) → i < 3 → on corridor curves i 8 ≡ []
    none_drives zero k = refl
    none_drives (suc zero) k = refl
    none_drives (suc (suc i)) k = refl

busy : Empty corridor curves (booked worked 7) 7 → ⊥
unfolding curves ons offs all car
busy e = let z : car 6 ∷ [] ≡ [] = e.none_drives 2 (lit< tt) in let y : ◌≡◌ {A = ℕ} 0 1 = cc in omega arith

pub corridor_worked : CorridorWorked
corridor_worked = record {
  runs = (curves, follows);
  answers = λ h c e f. (one_plain_run corridor sound h worked c curves e f follows).0;
  not_yet = λ c f e. busy (same_empty c curves _ 7 (λ s i l k. let a = agree c f s i (omega arith) k in (sym a.0, sym a.1)) e);
  empty = λ c f. same_empty curves c _ 8 (agree c f) empty;
}

-- how many of the first k vehicles take a link, by their exits
count : (net : Net) (i j k : ℕ) (vs : List Vehicle) (xs : List ℕ) → exits vs ≡ xs → length (towards net i j (take k vs)) ≡ count_by (λ x. is (next net i x) j) (take k xs)
count net i j k vs xs e = length-filter (λ (v : Vehicle). is (next net i v.exit) j) (take k vs)
    ∙ sym (sum_map (λ x. cond (is (next net i x) j) 1 0) (λ (v : Vehicle). v.exit) (take k vs))
    ∙ ap (count_by (λ x. is (next net i x) j)) (sym (take-map (λ (v : Vehicle). v.exit) k vs) ∙ ap (take k) e)

pub diverge_worked : DivergeWorked
diverge_worked net c i j j' t p q to-p to-q d vs s r r' = record {
  holds = record {
    sent = omega (arith, s);
    one = omega (arith, r, count net i j 3 (on net c i t) _ vs, three (λ x. is (next net i x) j), pj, qj);
    other = omega (arith, r', count net i j' 3 (on net c i t) _ vs, three (λ x. is (next net i x) j'), pj', qj');
  };
  most = most;
}
  where
    one : (x k : ℕ) (b : Bool) → is (next net i x) k ≡ b → cond {A = ℕ} (is (next net i x) k) 1 0 ≡ cond b 1 0
    one x k b e = ap (λ b. cond b 1 0) e

    pj : cond {A = ℕ} (is (next net i p) j) 1 0 ≡ 1
    pj = one p j true (ap (λ o. is o j) to-p ∙ eq-eqb j j refl)

    qj : cond {A = ℕ} (is (next net i q) j) 1 0 ≡ 0
    qj = one q j false (ap (λ o. is o j) to-q ∙ ne_eqb j' j (λ e. d (sym e)))

    pj' : cond {A = ℕ} (is (next net i p) j') 1 0 ≡ 0
    pj' = one p j' false (ap (λ o. is o j') to-p ∙ ne_eqb j j' d)

    qj' : cond {A = ℕ} (is (next net i q) j') 1 0 ≡ 1
    qj' = one q j' true (ap (λ o. is o j') to-q ∙ eq-eqb j' j' refl)

    three : (f : ℕ → Bool) → count_by f (p ∷ p ∷ q ∷ []) ≡ cond (f p) 1 0 + cond (f p) 1 0 + cond (f q) 1 0
    three f = omega arith

    four : (f : ℕ → Bool) → count_by f (p ∷ p ∷ q ∷ p ∷ []) ≡ cond (f p) 1 0 + cond (f p) 1 0 + cond (f q) 1 0 + cond (f p) 1 0
    four f = omega arith

    most : (m : ℕ) → Passable net c i j j' t m → m ≤ 3
    most m f = go (cases_lt 3 m)
      where
        go : (3 < m) ⊎ (m ≤ 3) → m ≤ 3
        go (inl l) = let e : m ≡ 4 = omega (arith, f.sent, s) in
            let o : length (towards net i j (take 4 (on net c i t))) ≤ R net c j t = subst (λ m. length (towards net i j (take m (on net c i t))) ≤ R net c j t) e f.one in
            absurd (omega (arith, o, r, count net i j 4 (on net c i t) _ vs, four (λ x. is (next net i x) j), pj, qj))
        go (inr l) = l
