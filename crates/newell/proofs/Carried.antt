-- A step in what the run holds takes the plain run on.
use Rattle.newell.specs.declared.records.Vehicle.{Vehicle}
use Rattle.merge.specs.declared.question.Question.{Question}
use Rattle.newell.specs.declared.records.StepRow.{StepRow}
use Rattle.std.proofs.Common.{◌≡◌, ℕ, zero, suc, ◌+◌, ◌-◌, ◌<◌, ◌≤◌, ◌⊎◌, List, [], ◌∷◌, ◌++◌, map, length, take, drop, replicate, Some, None, Option, sym, refl, ap, ◌∙◌, subst, ap₂, subst₂, inl, inr, add-one, arith, length-append, eq-eqb, ne_eqb, le-leb}
use mathlib.Core.Logic.{∥∥₁_elim, ∥∥₁_prop}
use native.Mathlib.Bridge.{le_prop}
use lib.ListN.{length-map}
use Rattle.std.proofs.lemmas.Bool.{cases_eq}
use Rattle.std.specs.List.{AllByRecursion}
use Rattle.std.proofs.lemmas.List.{drop-drop, drop-append-le, append-nil}
use Rattle.network.specs.Net.{Net, Sound, Entrance, Served, entering, leaving}
use Rattle.merge.specs.Rules.{Meaning, Lawful}
use Rattle.newell.specs.Plain.{Curves, U, V, S, R, on, leavers, towards, waiting, arrivals, question, Law, Passable}
use Rattle.newell.specs.History.{History, Event, book, step, ask_link, ask_entrance, ask_exit, told, refused, clock, booked, handed, final, travelled, travel, last_travel, row_of, state_of, Filled, Asked, Follows}
use Rattle.newell.specs.Now.{LinkNow, RunNow, Shows, sends, takes, leave, arrive, asks, Fit, Passes, Moved, RowsNow, AskedNow, lasted, Carries, Reached, StepCarries, BookingCarries, OpeningStarts, Idle, IdleCarries, state_now, LinkTells}
use Rattle.newell.specs.Promise.{Agree}
use Rattle.network.proofs.Sorts.{in₁, in₂, off₁, off₂}
use Rattle.network.proofs.Places.{In, entered, left_from, leaves, only}
use Rattle.newell.proofs.Bounds.{u_mono, v_le_u}
use Rattle.newell.proofs.Bounds as bounds
use Rattle.newell.proofs.Timeline.{timeline, booked_late}
use Rattle.newell.proofs.Timeline.{Timeline}
use Rattle.newell.proofs.Weights.{later}
use Rattle.newell.proofs.Account.{within}
use Rattle.newell.proofs.Moments.{at_each_moment}
use Rattle.newell.proofs.Single.{joined_ext}
use Rattle.newell.proofs.Extend.{extended, extended_before, extended_came, extended_left, taken_on}

module _ (net : Net) (sound : Sound net) (h : History) (c : Curves) (f : Follows net c h) (r : RunNow) (shows : Shows net c h r) (m : Meaning) (out : ℕ → ℕ)
    (passes : (n : ℕ) → Passes net r m out n) where
  came' : ℕ → List Vehicle
  came' i = c.came i (clock h) ++ map (λ x. record { exit = x; since = clock h + 1 }) (arrive net r out i)

  left' : ℕ → ℕ
  left' i = (r.link i).offs 0 + out i

  d : Curves
  d = extended c (clock h) came' left'

  agree : Agree net c d (clock h)
  unfolding d
  agree = extended_before net c (clock h) came' left'

  v_next : (i : ℕ) → V net d i (clock h + 1) ≡ (r.link i).offs 0 + out i
  unfolding d left'
  v_next i = extended_left c (clock h) came' left' i

  v_now : (i : ℕ) → i < net.links → V net d i (clock h) ≡ (r.link i).offs 0
  v_now i k = sym (agree (clock h) i (omega arith) k).1 ∙ sym (shows.offs i 0 k (omega arith) ∙ ap (V net c i) (omega arith))

  u_now : (i : ℕ) → i < net.links → U net d i (clock h) ≡ (r.link i).ons 0
  u_now i k = sym (ap length (agree (clock h) i (omega arith) k).0) ∙ sym (shows.ons i 0 k (omega arith) ∙ ap (U net c i) (omega arith))

  s_now : (i : ℕ) → i < net.links → S net d i (clock h) ≡ sends net r i
  s_now i k = let s = sound.link i k in
      let e : U net d i (clock h + 1 - (net.link i).free) ≡ (r.link i).ons ((net.link i).free - 1) =
      sym (ap length (agree (clock h + 1 - (net.link i).free) i (omega arith) k).0)
      ∙ sym (shows.ons i ((net.link i).free - 1) k (omega arith) ∙ ap (U net c i) (omega arith)) in
      rw (e, v_now i k)

  r_now : (j : ℕ) → j < net.links → R net d j (clock h) ≡ takes net r j
  r_now i k = let s = sound.link i k in
      let e : V net d i (clock h + 1 - (net.link i).wave) ≡ (r.link i).offs ((net.link i).wave - 1) =
      sym (agree (clock h + 1 - (net.link i).wave) i (omega arith) k).1
      ∙ sym (shows.offs i ((net.link i).wave - 1) k (omega arith) ∙ ap (V net c i) (omega arith)) in
      rw (e, u_now i k)

  on_now : (i : ℕ) → i < net.links → on net d i (clock h) ≡ (r.link i).cars
  on_now i k = ap₂ drop (sym (agree (clock h) i (omega arith) k).1) (sym (agree (clock h) i (omega arith) k).0) ∙ sym (shows.cars i k)

  leave_now : (i : ℕ) → i < net.links → leavers net d i (clock h) ≡ leave net r out i
  leave_now i k = let e : V net d i (clock h + 1) - V net d i (clock h) ≡ out i = omega (arith, v_next i, v_now i k) in ap₂ take e (on_now i k)

  wait_now : (j : ℕ) → j < net.links → waiting net d (booked h (clock h) (net.link j).from) j (clock h) ≡ r.queue j
  wait_now j k = ap (λ n. drop n (booked h (clock h) (net.link j).from)) (sym (ap length (agree (clock h) j (omega arith) k).0)) ∙ sym (shows.queue j k)

  arrive_now : (j : ℕ) → j < net.links → arrivals net d (booked h (clock h) (net.link j).from) j (clock h) ≡ arrive net r out j
  arrive_now j k = ap₂ (λ (xs ys : List ℕ). xs ++ ys)
      (ap₂ (λ n (w : List ℕ). take n w) (r_now j k) (wait_now j k))
      (joined_ext _ _ (entering net (net.link j).from) (λ i q. ap (λ vs. map {B = ℕ} (λ v. v.exit) (towards net i j vs)) (leave_now i (entered net _ i q).0)))

  question_now : (i i' j : ℕ) → i < net.links → i' < net.links → j < net.links → question net d i i' j (clock h) ≡ asks net r i i' j
  question_now i i' j k k' l = λ z. record { clock = sym shows.time z; s1 = s_now i k z; s2 = s_now i' k' z; r = r_now j l z; q1 = (net.link i).capacity; q2 = (net.link i').capacity }

  fit→ : (i j j' n : ℕ) → i < net.links → j < net.links → j' < net.links → Fit net r i j j' n → Passable net d i j j' (clock h) n
  fit→ i j j' n k l l' p = record {
    sent = subst (λ q. n ≤ q) (sym (s_now i k)) p.sent;
    one = subst₂ (λ (vs : List Vehicle) q. length (towards net i j (take n vs)) ≤ q) (sym (on_now i k)) (sym (r_now j l)) p.one;
    other = subst₂ (λ (vs : List Vehicle) q. length (towards net i j' (take n vs)) ≤ q) (sym (on_now i k)) (sym (r_now j' l')) p.other;
  }

  fit← : (i j j' n : ℕ) → i < net.links → j < net.links → j' < net.links → Passable net d i j j' (clock h) n → Fit net r i j j' n
  fit← i j j' n k l l' p = record {
    sent = subst (λ q. n ≤ q) (s_now i k) p.sent;
    one = subst₂ (λ (vs : List Vehicle) q. length (towards net i j (take n vs)) ≤ q) (on_now i k) (r_now j l) p.one;
    other = subst₂ (λ (vs : List Vehicle) q. length (towards net i j' (take n vs)) ≤ q) (on_now i k) (r_now j' l') p.other;
  }

  came_next : (j : ℕ) → j < net.links → d.came j (clock h + 1) ≡ d.came j (clock h) ++ map (λ x. record { exit = x; since = clock h + 1 }) (arrive net r out j)
  unfolding d came'
  came_next j k = extended_came c (clock h) came' left' j
      ∙ ap (λ (vs : List Vehicle). vs ++ map (λ x. record { exit = x; since = clock h + 1 }) (arrive net r out j)) (agree (clock h) j (omega arith) k).0

  law : Law net d (booked h (clock h)) m (clock h)
  law = record {
    arrive = λ j k. came_next j k ∙ ap (λ xs. d.came j (clock h) ++ map (λ x. record { exit = x; since = clock h + 1 }) xs) (sym (arrive_now j k));
    exit = λ n i e l. let k = (in₁ net n i [] e).0 in omega (arith, (passes n).exit i e l, v_next i, v_now i k, s_now i k);
    mainline = λ n i j e l. let k = (in₁ net n i [] e).0 in omega (arith, (passes n).mainline i j e l, v_next i, v_now i k, s_now i k, r_now j (off₁ net n j [] l).0);
    merge = λ n i i' j e l. let k = (in₁ net n i (i' ∷ []) e).0 in let k' = (in₂ net n i i' [] e).0 in let q = sym (question_now i i' j k k' (off₁ net n j [] l).0) in (
      v_next i ∙ ap₂ ◌+◌ (sym (v_now i k)) (((passes n).merge i i' j e l).0 ∙ ap (λ q. (m.splits n [] q).0) q),
      v_next i' ∙ ap₂ ◌+◌ (sym (v_now i' k')) (((passes n).merge i i' j e l).1 ∙ ap (λ q. (m.splits n [] q).1) q),
    );
    diverge = λ n i j j' e l. let k = (in₁ net n i [] e).0 in let x = (passes n).diverge i j j' e l in let a = (off₁ net n j (j' ∷ []) l).0 in let b = (off₂ net n j j' [] l).0 in (
      out i,
      omega (arith, v_next i, v_now i k),
      record {
        holds = fit→ i j j' (out i) k a b x.holds;
        most = λ q p. x.most q (fit← i j j' q k a b p);
      },
    );
  }

  came_count : (i : ℕ) → i < net.links → U net d i (clock h + 1) ≡ U net d i (clock h) + length (arrive net r out i)
  came_count i k = ap length (came_next i k) ∙ simp (length-append, length-map)

  lasted_is : (o : Option Vehicle) → lasted net r out o ≡ travelled net d (clock h) o
  lasted_is None = refl
  lasted_is (Some v) = ap (λ t. Some (t + 1 - v.since)) shows.time

  travel_now : (i : ℕ) → i < net.links → lasted net r out (final (leave net r out i)) ≡ travel net d i (clock h)
  travel_now i k = lasted_is (final (leave net r out i)) ∙ ap (λ vs. travelled net d (clock h) (final vs)) (sym (leave_now i k))

  filled : (rows rows' : List StepRow) → RowsNow net r out rows rows' → Filled net d (clock h) rows rows'
  filled rows rows' p = record {
    as_many = p.as_many;
    filled = λ i e k. p.filled i e k ∙ row i k;
    beyond = p.beyond;
  }
    where
      row : (i : ℕ) → i < net.links → record { came = length (arrive net r out i); left = out i; travel = lasted net r out (final (leave net r out i)) } ≡ row_of net d i (clock h)
      row i k =
          let a : length (arrive net r out i) ≡ U net d i (clock h + 1) - U net d i (clock h) = omega (arith, came_count i k) in
          let b : out i ≡ V net d i (clock h + 1) - V net d i (clock h) = omega (arith, v_next i, v_now i k) in
          let e = travel_now i k in
          λ z. record { came = a z; left = b z; travel = e z }

  asked : (m' : Meaning) → AskedNow net r m m' → Asked net d (clock h) m m'
  asked m' p = record {
    limits = p.limits;
    merge = λ n i i' j e l qs q. p.merge n i i' j e l qs q
        ∙ ap (λ (z : Question). m.splits n (z ∷ qs) q) (sym (question_now i i' j (in₁ net n i (i' ∷ []) e).0 (in₂ net n i i' [] e).0 (off₁ net n j [] l).0));
    other = p.other;
  }

  -- the step is answered, and the plain run goes on
  served : (e : ℕ) → AllByRecursion (λ x. (n : ℕ) × Served net e x n) (booked h (clock h) e)
  served e = (timeline net c h f).served (clock h) e (omega arith)

  -- a link sends at most what it may send, and takes at most what it may take
  out_le : Lawful m → clock h < 1000000 → (i : ℕ) → i < net.links → out i ≤ sends net r i
  out_le keeps b i k = let o = bounds.sends net sound d (booked h (clock h)) m (clock h) law keeps b served i k in omega (arith, o.1, o.2, v_next i, v_now i k, s_now i k)

  arrive_le : Lawful m → clock h < 1000000 → (j : ℕ) → j < net.links → length (arrive net r out j) ≤ takes net r j
  arrive_le keeps b j k = omega (arith, bounds.takes net sound d (booked h (clock h)) m (clock h) law keeps b served j k, ap length (arrive_now j k), r_now j k)

  module _ (r' : RunNow) (moved : Moved net r out r') (m' : Meaning) (rows rows' : List StepRow) (rn : RowsNow net r out rows rows') (an : AskedNow net r m m')
      (enough : net.links ≤ length rows) (early : clock h < 1000000) (keeps : Lawful m) where
    follows : Follows net d (step m rows (told tt) m' rows' ∷ h)
    unfolding d
    follows = taken_on net sound c h came' left' m m' rows rows' f
        (inr (enough, inr (early, (law, filled rows rows' rn, asked m' an, keeps))), λ k e. absurd (let z : ◌≡◌ {A = ℕ} 0 1 = cc in omega arith))

    lawful : Timeline net d (clock h + 1) (booked h) (handed (step m rows (told tt) m' rows' ∷ h))
    lawful = timeline net d (step m rows (told tt) m' rows' ∷ h) follows

    shown : Shows net d (step m rows (told tt) m' rows' ∷ h) r'
    shown = record {
      time = moved.clock ∙ ap (λ t. t + 1) shows.time;
      ons = ons;
      offs = offs;
      cars = cars;
      travel = λ i k. moved.travel i k ∙ travel_now i k ∙ ap (last_travel net d i) (sym (add-one (clock h)));
      queue = queue;
    }
      where
        ons : (i q : ℕ) → i < net.links → q ≤ 63 → (r'.link i).ons q ≡ U net d i (clock h + 1 - q)
        ons i zero k l = moved.come i k ∙ ap (λ n. n + length (arrive net r out i)) (sym (u_now i k)) ∙ sym (came_count i k) ∙ ap (U net d i) (omega arith)
        ons i (suc q) k l = rw (← add-one) (moved.ons i q k (omega arith)) ∙ shows.ons i q k (omega arith)
            ∙ ap length (agree (clock h - q) i (omega arith) k).0 ∙ ap (U net d i) (omega arith)

        offs : (i q : ℕ) → i < net.links → q ≤ 63 → (r'.link i).offs q ≡ V net d i (clock h + 1 - q)
        offs i zero k l = moved.go i k ∙ sym (v_next i) ∙ ap (V net d i) (omega arith)
        offs i (suc q) k l = rw (← add-one) (moved.offs i q k (omega arith)) ∙ shows.offs i q k (omega arith)
            ∙ (agree (clock h - q) i (omega arith) k).1 ∙ ap (V net d i) (omega arith)

        cars : (i : ℕ) → i < net.links → (r'.link i).cars ≡ on net d i (clock h + 1)
        cars i k =
            let o = bounds.out net sound d (clock h + 1) (booked h) (handed (step m rows (told tt) m' rows' ∷ h)) lawful (clock h) i (omega arith) k in
            let v = v_le_u net sound d (clock h + 1) (booked h) (handed (step m rows (told tt) m' rows' ∷ h)) lawful i (clock h) k (omega arith) in
            let u = u_mono net sound d (clock h + 1) (booked h) (handed (step m rows (told tt) m' rows' ∷ h)) lawful i (clock h + 1 - (net.link i).free) (clock h) k
            (omega (arith, (sound.link i k).free_least)) (omega arith) in
            let g : out i ≡ o.0 = omega (arith, v_next i, v_now i k) in
            let e : on net d i (clock h + 1) ≡ drop o.0 (on net d i (clock h)) ++ map (λ x. record { exit = x; since = clock h + 1 }) (arrive net r out i) =
            rw (came_next i k, o.1, drop-append-le (V net d i (clock h) + o.0) (d.came i (clock h)) _ (omega arith), ← drop-drop) in
            moved.cars i k ∙ ap₂ (λ n (vs : List Vehicle). drop n vs ++ map (λ x. record { exit = x; since = r.clock + 1 }) (arrive net r out i)) g (sym (on_now i k))
            ∙ ap (λ (t : ℕ). drop o.0 (on net d i (clock h)) ++ map (λ x. record { exit = x; since = t + 1 }) (arrive net r out i)) shows.time ∙ sym e

        queue : (j : ℕ) → j < net.links → r'.queue j ≡ waiting net d (booked h (clock h + 1) (net.link j).from) j (clock h + 1)
        queue j k = moved.queue j k ∙ ap₂ (λ n (w : List ℕ). drop n w) (sym (r_now j k)) (sym (wait_now j k))
            ∙ sym (later net sound d (clock h + 1) (booked h) (handed (step m rows (told tt) m' rows' ∷ h)) lawful (clock h) (omega arith) j k)
            ∙ ap (λ (b : List ℕ). waiting net d b j (clock h + 1)) (booked_late h (clock h) (clock h + 1) (net.link j).from (omega arith) (omega arith))

-- an accepted step carries the plain run on
pub step_carries : StepCarries
step_carries net r r' m m' rows rows' out passes moved rn an enough early keeps h at =
    let sound = at.sound in let c = at.curves in let f = at.follows in let shows = at.shows in
    let e : clock h < 1000000 = omega (arith, shows.time) in
    let g = follows net sound h c f r shows m out passes r' moved m' rows rows' rn an enough e keeps in
    record {
      sound = sound;
      curves = d net sound h c f r shows m out passes;
      follows = g;
      shows = shown net sound h c f r shows m out passes r' moved m' rows rows' rn an enough e keeps;
      promise = at_each_moment net sound (step m rows (told tt) m' rows' ∷ h) (d net sound h c f r shows m out passes) g;
    }

-- of a run that some calls led to
pub outgoing : (net : Net) (r : RunNow) (m : Meaning) (out : ℕ → ℕ) → ((n : ℕ) → Passes net r m out n) → Lawful m → r.clock < 1000000 → Reached net r → (i : ℕ) → i < net.links → out i ≤ sends net r i
outgoing net r m out passes keeps b t i k = ∥∥₁_elim t le_prop (λ q. out_le net q.1.sound q.0 q.1.curves q.1.follows r q.1.shows m out passes keeps (omega (arith, q.1.shows.time)) i k)

pub incoming : (net : Net) (r : RunNow) (m : Meaning) (out : ℕ → ℕ) → ((n : ℕ) → Passes net r m out n) → Lawful m → r.clock < 1000000 → Reached net r → (j : ℕ) → j < net.links → length (arrive net r out j) ≤ takes net r j
incoming net r m out passes keeps b t i k = ∥∥₁_elim t le_prop (λ q. arrive_le net q.1.sound q.0 q.1.curves q.1.follows r q.1.shows m out passes keeps (omega (arith, q.1.shows.time)) i k)

pub reached_on : (net : Net) (r : RunNow) (event : Event) (r' : RunNow) → Carries net r event r' → Reached net r → Reached net r'
reached_on net r event r' f t = ∥∥₁_elim t ∥∥₁_prop (λ q. ∣ (event ∷ q.0, f q.0 q.1) ∣₁)

pub opening_starts : OpeningStarts
opening_starts net sound r o = record {
  sound = sound;
  curves = c;
  follows = f;
  shows = record {
    time = o.clock;
    ons = λ i q k l. o.ons i q k;
    offs = λ i q k l. o.offs i q k;
    cars = λ i k. o.cars i k;
    travel = λ i k. o.travel i k;
    queue = λ j k. o.queue j k;
  };
  promise = at_each_moment net sound [] c f;
}
  where
    c : Curves
    c = record { came = λ i t. []; left = λ i t. 0 }

    f : Follows net c []
    f = record { came = λ i k. refl; left = λ i k. refl }

pub booking_carries : BookingCarries
booking_carries net r r' e j x i k n en ex sv low high room q h at = record {
  sound = sound;
  curves = c;
  follows = f;
  shows = record {
    time = q.clock ∙ shows.time;
    ons = λ i p l b. ap (λ (z : LinkNow). z.ons p) (q.link i l) ∙ shows.ons i p l b;
    offs = λ i p l b. ap (λ (z : LinkNow). z.offs p) (q.link i l) ∙ shows.offs i p l b;
    cars = λ i l. ap (λ (z : LinkNow). z.cars) (q.link i l) ∙ shows.cars i l;
    travel = λ i l. ap (λ (z : LinkNow). z.travel) (q.link i l) ∙ shows.travel i l;
    queue = queue;
  };
  promise = at_each_moment net sound (book e x n (told tt) ∷ h) c f;
}
  where
    sound : Sound net
    sound = at.sound

    c : Curves
    c = at.curves

    shows : Shows net c h r
    shows = at.shows

    one : (k : ℕ) → Entrance net e k → j ≡ k
    one k w = only j k (subst (In j) (sym en.1 ∙ w.1) (inl refl))

    fits : (j : ℕ) → Entrance net e j → length (waiting net c (booked h (clock h) e) j (clock h)) + n ≤ 500
    fits k w = subst (λ k. length (waiting net c (booked h (clock h) e) k (clock h)) + n ≤ 500) (one k w)
        (let p = left_from net e j (subst (In j) (sym en.1) (inl refl)) in
        let v : r.queue j ≡ waiting net c (booked h (clock h) e) j (clock h) = subst (λ y. r.queue j ≡ waiting net c (booked h (clock h) y) j (clock h)) p.1 (shows.queue j p.0) in
        omega (arith, ap length v))

    f : Follows net c (book e x n (told tt) ∷ h)
    f = (at.follows, inr ((j, en), inr ((i, ex), inr ((k, sv), inr ((low, high), inr (fits, tt))))))

    here : (net.link j).from ≡ e
    here = (left_from net e j (subst (In j) (sym en.1) (inl refl))).1

    queue : (j : ℕ) → j < net.links → r'.queue j ≡ waiting net c (booked (book e x n (told tt) ∷ h) (clock h) (net.link j).from) j (clock h)
    queue j' l = go (cases_eq j j')
      where
        B : List ℕ
        B = booked h (clock h) (net.link j').from

        go : (j ≡ j') ⊎ (j ≡ j' → ⊥)
            → r'.queue j' ≡ waiting net c (booked (book e x n (told tt) ∷ h) (clock h) (net.link j').from) j' (clock h)
        go (inl z) = let y : e ≡ (net.link j').from = sym here ∙ ap (λ k. (net.link k).from) z in
            subst (λ z. r'.queue z ≡ r.queue z ++ replicate n x) z q.here ∙ ap (λ (w : List ℕ). w ++ replicate n x) (shows.queue j' l)
            ∙ sym (rw (le-leb (clock h) (clock h) (omega arith), eq-eqb e (net.link j').from y)
            (drop-append-le (U net c j' (clock h)) B (replicate n x)
            (within net sound c (clock h) (booked h) (handed h) (timeline net c h at.follows) j' (clock h) l (ap (entering net) (sym y) ∙ en.0) (omega arith))))
        go (inr z) = let y : e ≡ (net.link j').from → ⊥ = λ y. z (sym (only j' j (subst (In j') (ap (leaving net) (sym y) ∙ en.1) (leaves net j' l)))) in
            q.other j' l z ∙ shows.queue j' l
            ∙ sym (rw (le-leb (clock h) (clock h) (omega arith), ne_eqb e (net.link j').from y) (ap (drop (U net c j' (clock h))) (append-nil B)))

stays : (net : Net) (c : Curves) (h : History) (r : RunNow) (event : Event) → Idle event → Shows net c h r → Shows net c (event ∷ h) r
stays net c h r (book e x n (told u)) z s = absurd z
stays net c h r (book e x n (refused k)) z s = record { time = s.time; ons = s.ons; offs = s.offs; cars = s.cars; travel = s.travel; queue = s.queue }
stays net c h r (step m rows (told u) m' rows') z s = absurd z
stays net c h r (step m rows (refused k) m' rows') z s = record { time = s.time; ons = s.ons; offs = s.offs; cars = s.cars; travel = s.travel; queue = s.queue }
stays net c h r (ask_link i a) z s = record { time = s.time; ons = s.ons; offs = s.offs; cars = s.cars; travel = s.travel; queue = s.queue }
stays net c h r (ask_entrance e a) z s = record { time = s.time; ons = s.ons; offs = s.offs; cars = s.cars; travel = s.travel; queue = s.queue }
stays net c h r (ask_exit x a) z s = record { time = s.time; ons = s.ons; offs = s.offs; cars = s.cars; travel = s.travel; queue = s.queue }

pub idle_carries : IdleCarries
idle_carries net r event z answers h at = record {
  sound = at.sound;
  curves = at.curves;
  follows = (at.follows, answers h at);
  shows = stays net at.curves h r event z at.shows;
  promise = at_each_moment net at.sound (event ∷ h) at.curves (at.follows, answers h at);
}

pub link_tells : LinkTells
link_tells net r i k = idle_carries net r (ask_link (i + 1) (told (state_now net r i))) tt (λ h at. let s = at.shows in
    let c = at.curves in
    let u : (r.link i).ons 0 ≡ U net c i (clock h) = s.ons i 0 k (omega arith) ∙ ap (U net c i) (omega arith) in
    let v : (r.link i).offs 0 ≡ V net c i (clock h) = s.offs i 0 k (omega arith) ∙ ap (V net c i) (omega arith) in
    let w : (r.link i).ons (net.link i).free ≡ U net c i (clock h - (net.link i).free) = s.ons i (net.link i).free k (at.sound.link i k).free_most in
    let e : i ≡ i + 1 - 1 = omega arith in
    let q : state_now net r i ≡ state_of net c i (clock h) = λ z. record { on = u z; off = v z; arrived = w z; queue = w z - v z; travel = s.travel i k z } in
    inr ((omega arith, omega arith), q ∙ ap (λ p. state_of net c p (clock h)) e))
