-- A plain run for every list of calls: a run by what it holds, built call by call.
use Rattle.newell.specs.declared.records.StepRow.{StepRow}
use Rattle.merge.specs.declared.question.Question.{Question}
use Rattle.std.proofs.Common.{◌≡◌, ℕ, zero, suc, ◌+◌, ◌-◌, ◌<◌, ◌≤◌, min, cond, eqb, ◌⊎◌, List, [], ◌∷◌, ◌++◌, map, length, get_or, take, drop, replicate, None, sym, refl, ap, ◌∙◌, subst, ap₂, inl, inr, add-one, arith, length-append, length-drop, eq-eqb, ne_eqb}
use Rattle.std.specs.List.{range_with_len, AllByRecursion}
use Rattle.std.proofs.lemmas.List.FromFn.{length-map-range_with_len, get_or-map-range_with_len}
use Rattle.std.proofs.lemmas.List.{get_or_append_left, get_or-append_right, get_or-drop}
use Rattle.std.proofs.lemmas.Bool.{cases_lt}
use Rattle.network.specs.Net.{Net, Sound, Entrance, Exit, Walk, entering, leaving}
use Rattle.network.proofs.Sorts.{in₁, in₂, two_rise}
use Rattle.merge.specs.Rules.{Meaning, Lawful}
use Rattle.newell.specs.Plain.{towards, Greatest}
use Rattle.newell.specs.History.{Call, to_book, to_step, to_ask_link, to_ask_entrance, to_ask_exit, call, History, Event, ask_link, told, final}
use Rattle.newell.specs.Promise.{Lawfully, PlainRunThere}
use Rattle.newell.specs.Now.{RunNow, sends, takes, asks, Fit, Passes, leave, arrive, lasted, Moved, RowsNow, AskedNow, Queued, Opened, Moment, state_now}
use Rattle.newell.proofs.Carried.{opening_starts, booking_carries, step_carries, link_tells}
use Rattle.newell.proofs.Telling.{entrance_tells, exit_tells, no_link, no_entrance, no_exit, book_no_entrance, book_no_exit, book_not_served, book_bad_count, book_no_place, few_rows, too_late}
use Rattle.newell.proofs.Diverge.{fit_down}
use Rattle.newell.proofs.Moments.{served_bound}
use Rattle.newell.proofs.Numbering.{some_below, walk?}

-- a run just opened
unopened : RunNow
unopened = record { clock = 0; link = λ i. record { ons = λ k. 0; offs = λ k. 0; cars = []; travel = None }; queue = λ j. [] }

is_opened : (net : Net) → Opened net unopened
unfolding unopened
is_opened net = record { clock = refl; ons = λ i q k. refl; offs = λ i q k. refl; cars = λ i k. refl; travel = λ i k. refl; queue = λ j k. refl }

-- a booking
queueing : RunNow → ℕ → ℕ → ℕ → RunNow
queueing r j x n = record { clock = r.clock; link = r.link; queue = λ k. cond (eqb j k) (r.queue k ++ replicate n x) (r.queue k) }

is_queued : (net : Net) (r : RunNow) (j x n : ℕ) → Queued net r j x n (queueing r j x n)
unfolding queueing
is_queued net r j x n = record {
  clock = refl;
  link = λ i k. refl;
  here = ap (λ b. cond b (r.queue j ++ replicate n x) (r.queue j)) (eq-eqb j j refl);
  other = λ k l d. ap (λ b. cond b (r.queue k ++ replicate n x) (r.queue k)) (ne_eqb j k d);
}

-- the greatest number of vehicles that may pass a diverge
module _ (net : Net) (r : RunNow) (i j j' : ℕ) where
  fit? : (k : ℕ) → Fit net r i j j' k ⊎ (Fit net r i j j' k → ⊥)
  fit? k = go (cases_lt (sends net r i) k) (cases_lt (takes net r j) (length (towards net i j (take k (r.link i).cars)))) (cases_lt (takes net r j') (length (towards net i j' (take k (r.link i).cars))))
    where
      go : (sends net r i < k) ⊎ (k ≤ sends net r i)
          → (takes net r j < length (towards net i j (take k (r.link i).cars))) ⊎ (length (towards net i j (take k (r.link i).cars)) ≤ takes net r j)
          → (takes net r j' < length (towards net i j' (take k (r.link i).cars))) ⊎ (length (towards net i j' (take k (r.link i).cars)) ≤ takes net r j')
          → Fit net r i j j' k ⊎ (Fit net r i j j' k → ⊥)
      go (inl a) b c = inr (λ f. omega (arith, f.sent))
      go (inr a) (inl b) c = inr (λ f. omega (arith, f.one))
      go (inr a) (inr b) (inl c) = inr (λ f. omega (arith, f.other))
      go (inr a) (inr b) (inr c) = inl (record { sent = a; one = b; other = c })

  Top : ℕ → ℕ → Type 0
  Top k n = Fit net r i j j' n × ((m : ℕ) → m ≤ k → Fit net r i j j' m → m ≤ n)

  top : (k : ℕ) → (n : ℕ) × Top k n
  unfolding Top
  top zero = (0, (record { sent = omega arith; one = omega arith; other = omega arith }, λ m l f. l))
  top (suc k) = go (fit? (suc k)) (top k)
    where
      go : Fit net r i j j' (suc k) ⊎ (Fit net r i j j' (suc k) → ⊥) → ((n : ℕ) × Top k n) → (n : ℕ) × Top (suc k) n
      go (inl f) t = (suc k, (f, λ m l g. l))
      go (inr none) t = (t.0, (t.1.0, λ m l g. less m g (cases_lt k m)))
        where
          less : (m : ℕ) → Fit net r i j j' m → (k < m) ⊎ (m ≤ k) → m ≤ t.0
          less m g (inl a) = absurd (none (fit_down net r i j j' (suc k) m (omega arith) g))
          less m g (inr a) = t.1.1 m a g

  greatest : Greatest (Fit net r i j j') (top (sends net r i)).0
  unfolding Top
  greatest = let t = top (sends net r i) in record { holds = t.1.0; most = λ m f. t.1.1 m f.sent f }

-- how many leave the link k at the node n, by the links that enter and leave it
module _ (net : Net) (r : RunNow) (m : Meaning) where
  out_at : ℕ → List ℕ → List ℕ → ℕ → ℕ
  out_at n [] js k = 0
  out_at n (i ∷ []) [] k = sends net r i
  out_at n (i ∷ []) (j ∷ []) k = min (sends net r i) (takes net r j)
  out_at n (i ∷ []) (j ∷ j' ∷ []) k = (top net r i j j' (sends net r i)).0
  out_at n (i ∷ []) (j ∷ j' ∷ l ∷ js) k = 0
  out_at n (i ∷ i' ∷ []) [] k = 0
  out_at n (i ∷ i' ∷ []) (j ∷ []) k = cond (eqb k i) (m.splits n [] (asks net r i i' j)).0 (m.splits n [] (asks net r i i' j)).1
  out_at n (i ∷ i' ∷ []) (j ∷ j' ∷ js) k = 0
  out_at n (i ∷ i' ∷ l ∷ is) js k = 0

  out : ℕ → ℕ
  out k = out_at (net.link k).to (entering net (net.link k).to) (leaving net (net.link k).to) k

  out_is : (n k : ℕ) (is js : List ℕ) → (net.link k).to ≡ n → entering net n ≡ is → leaving net n ≡ js → out k ≡ out_at n is js k
  unfolding out
  out_is n k is js t e l = subst (λ u. out_at u (entering net u) (leaving net u) k ≡ out_at n is js k) (sym t) (ap₂ (λ xs ys. out_at n xs ys k) e l)

  passes : (n : ℕ) → Passes net r m out n
  unfolding out_at
  passes n = record {
    exit = λ i e l. out_is n i (i ∷ []) [] (in₁ net n i [] e).1 e l;
    mainline = λ i j e l. out_is n i (i ∷ []) (j ∷ []) (in₁ net n i [] e).1 e l;
    merge = λ i i' j e l. (
      out_is n i (i ∷ i' ∷ []) (j ∷ []) (in₁ net n i (i' ∷ []) e).1 e l ∙ ap (λ b. cond b (m.splits n [] (asks net r i i' j)).0 (m.splits n [] (asks net r i i' j)).1) (eq-eqb i i refl),
      out_is n i' (i ∷ i' ∷ []) (j ∷ []) (in₂ net n i i' [] e).1 e l ∙ ap (λ b. cond b (m.splits n [] (asks net r i i' j)).0 (m.splits n [] (asks net r i i' j)).1) (ne_eqb i' i (λ q. let y = two_rise _ net.links i i' e in omega (arith, y, q))),
    );
    diverge = λ i j j' e l. subst (Greatest (Fit net r i j j')) (sym (out_is n i (i ∷ []) (j ∷ j' ∷ []) (in₁ net n i [] e).1 e l)) (greatest net r i j j');
  }

  -- what the step makes of the run
  shifted : ℕ → (ℕ → ℕ) → ℕ → ℕ
  shifted new old zero = new
  shifted new old (suc q) = old q

  moving : RunNow
  moving = record {
    clock = r.clock + 1;
    link = λ i. record {
      ons = shifted ((r.link i).ons 0 + length (arrive net r out i)) (r.link i).ons;
      offs = shifted ((r.link i).offs 0 + out i) (r.link i).offs;
      cars = drop (out i) (r.link i).cars ++ map (λ x. record { exit = x; since = r.clock + 1 }) (arrive net r out i);
      travel = lasted net r out (final (leave net r out i));
    };
    queue = λ j. drop (takes net r j) (r.queue j);
  }

  shift_back : (new : ℕ) (old : ℕ → ℕ) (q : ℕ) → shifted new old (q + 1) ≡ old q
  unfolding shifted
  shift_back new old q = ap (shifted new old) (add-one q)

  moved : Moved net r out moving
  unfolding moving shifted
  moved = record {
    clock = refl;
    ons = λ i q k l. shift_back _ (r.link i).ons q;
    offs = λ i q k l. shift_back _ (r.link i).offs q;
    come = λ j k. refl;
    go = λ i k. refl;
    cars = λ j k. refl;
    travel = λ i k. refl;
    queue = λ j k. refl;
  }

  -- the rows that it leaves
  row_at : ℕ → StepRow
  row_at i = record { came = length (arrive net r out i); left = out i; travel = lasted net r out (final (leave net r out i)) }

  filling : List StepRow → List StepRow
  filling rows = map row_at (range_with_len 0 net.links) ++ drop net.links rows

  filled : (rows : List StepRow) → net.links ≤ length rows → RowsNow net r out rows (filling rows)
  unfolding filling row_at
  filled rows l = record {
    as_many = omega (arith, length-append (map row_at (range_with_len 0 net.links)) (drop net.links rows), length-map-range_with_len row_at 0 net.links, length-drop net.links rows);
    filled = λ i d k. get_or_append_left (map row_at (range_with_len 0 net.links)) (drop net.links rows) d i (omega (arith, length-map-range_with_len row_at 0 net.links))
        ∙ get_or-map-range_with_len row_at 0 net.links i i d k (omega arith);
    beyond = λ i d k. get_or-append_right (map row_at (range_with_len 0 net.links)) (drop net.links rows) net.links i d (length-map-range_with_len row_at 0 net.links) k
        ∙ get_or-drop net.links rows (i - net.links) d ∙ ap (λ p. get_or rows p d) (omega arith);
  }

  -- and the rule's meaning
  past_at : List ℕ → List ℕ → List Question → List Question
  past_at [] js past = past
  past_at (i ∷ []) js past = past
  past_at (i ∷ i' ∷ []) [] past = past
  past_at (i ∷ i' ∷ []) (j ∷ []) past = asks net r i i' j ∷ past
  past_at (i ∷ i' ∷ []) (j ∷ l ∷ js) past = past
  past_at (i ∷ i' ∷ l ∷ is) js past = past

  behind : Meaning
  behind = record { limits = m.limits; splits = λ n past. m.splits n (past_at (entering net n) (leaving net n) past) }

  is_asked : AskedNow net r m behind
  unfolding behind past_at
  is_asked = record {
    limits = λ n t. refl;
    merge = λ n i i' j e l past q. ap₂ (λ is js. m.splits n (past_at is js past) q) e l;
    other = λ n f past q. ap (λ ps. m.splits n ps q) (none (entering net n) (leaving net n) past (λ i i' j e l. f i i' j e l));
  }
    where
      none : (is js : List ℕ) (past : List Question) → ((i i' j : ℕ) → is ≡ i ∷ i' ∷ [] → js ≡ j ∷ [] → ⊥) → past_at is js past ≡ past
      none [] js past f = refl
      none (i ∷ []) js past f = refl
      none (i ∷ i' ∷ k ∷ is) js past f = refl
      none (i ∷ i' ∷ []) [] past f = refl
      none (i ∷ i' ∷ []) (j ∷ []) past f = absurd (f i i' j refl refl)
      none (i ∷ i' ∷ []) (j ∷ k ∷ js) past f = refl

entrance? : (net : Net) (e : ℕ) → ((j : ℕ) × Entrance net e j) ⊎ ((j : ℕ) → Entrance net e j → ⊥)
entrance? net e = go (entering net e) (leaving net e) refl refl
  where
    go : (is js : List ℕ) → entering net e ≡ is → leaving net e ≡ js → ((j : ℕ) × Entrance net e j) ⊎ ((j : ℕ) → Entrance net e j → ⊥)
    go [] (j ∷ []) a b = inl (j, (a, b))
    go [] [] a b = inr (λ k w. let z : [] ≡ k ∷ [] = sym b ∙ w.1 in cc)
    go [] (j ∷ j' ∷ js) a b = inr (λ k w. let z : j ∷ j' ∷ js ≡ k ∷ [] = sym b ∙ w.1 in cc)
    go (i ∷ is) js a b = inr (λ k w. let z : i ∷ is ≡ [] = sym a ∙ w.0 in cc)

exit? : (net : Net) (x : ℕ) → ((i : ℕ) × Exit net x i) ⊎ ((i : ℕ) → Exit net x i → ⊥)
exit? net x = go (entering net x) (leaving net x) refl refl
  where
    go : (is js : List ℕ) → entering net x ≡ is → leaving net x ≡ js → ((i : ℕ) × Exit net x i) ⊎ ((i : ℕ) → Exit net x i → ⊥)
    go (i ∷ []) [] a b = inl (i, (a, b))
    go (i ∷ []) (j ∷ js) a b = inr (λ k w. let z : j ∷ js ≡ [] = sym b ∙ w.1 in cc)
    go [] js a b = inr (λ k w. let z : [] ≡ k ∷ [] = sym a ∙ w.0 in cc)
    go (i ∷ i' ∷ is) js a b = inr (λ k w. let z : i ∷ i' ∷ is ≡ k ∷ [] = sym a ∙ w.0 in cc)

-- one call more
More : Net → History → Call → Type 0
More net h q = (event : Event) × (r : RunNow) × (call event ≡ q) × Moment net (event ∷ h) r

module _ (net : Net) (h : History) (r : RunNow) (at : Moment net h r) where
  more_book : (e x n : ℕ) → More net h (to_book e x n)
  unfolding More
  more_book e x n = go (entrance? net e)
    where
      counted : (j i k : ℕ) → Entrance net e j → Exit net x i → Walk net x j k → (n < 1) ⊎ (1 ≤ n) → (200 < n) ⊎ (n ≤ 200) → (500 < length (r.queue j) + n) ⊎ (length (r.queue j) + n ≤ 500)
          → More net h (to_book e x n)
      counted j i k en ex w (inl a) b c = (_, r, refl, book_bad_count net r e x n j i k en ex w (inl a) h at)
      counted j i k en ex w (inr a) (inl b) c = (_, r, refl, book_bad_count net r e x n j i k en ex w (inr b) h at)
      counted j i k en ex w (inr a) (inr b) (inl c) = (_, r, refl, book_no_place net r e x n j i k en ex w a b c h at)
      counted j i k en ex w (inr a) (inr b) (inr c) = (_, queueing r j x n, refl, booking_carries net r (queueing r j x n) e j x i k n en ex (j, en, w) a b c (is_queued net r j x n) h at)

      walks : (j i : ℕ) → Entrance net e j → Exit net x i → ((k : ℕ) × (k < net.nodes + 1) × Walk net x j k) ⊎ ((k : ℕ) → k < net.nodes + 1 → Walk net x j k → ⊥)
          → More net h (to_book e x n)
      walks j i en ex (inl w) = counted j i w.0 en ex w.2 (cases_lt n 1) (cases_lt 200 n) (cases_lt 500 (length (r.queue j) + n))
      walks j i en ex (inr f) = (_, r, refl, book_not_served net r e x n j i en ex (λ k w. f k (omega (arith, served_bound net at.sound e x k (j, en, w))) w) h at)

      leaves : (j : ℕ) → Entrance net e j → ((i : ℕ) × Exit net x i) ⊎ ((i : ℕ) → Exit net x i → ⊥) → More net h (to_book e x n)
      leaves j en (inl q) = walks j q.0 en q.1 (some_below (Walk net x j) (λ k. walk? net x k j) (net.nodes + 1))
      leaves j en (inr f) = (_, r, refl, book_no_exit net r e x n j en f h at)

      go : ((j : ℕ) × Entrance net e j) ⊎ ((j : ℕ) → Entrance net e j → ⊥) → More net h (to_book e x n)
      go (inl q) = leaves q.0 q.1 (exit? net x)
      go (inr f) = (_, r, refl, book_no_entrance net r e x n f h at)

  more_step : (m : Meaning) (rows : List StepRow) → Lawful m → More net h (to_step m rows)
  unfolding More
  more_step m rows lawful = go (cases_lt (length rows) net.links) (cases_lt r.clock 1000000)
    where
      go : (length rows < net.links) ⊎ (net.links ≤ length rows) → (r.clock < 1000000) ⊎ (1000000 ≤ r.clock) → More net h (to_step m rows)
      go (inl a) b = (_, r, refl, few_rows net r m rows a h at)
      go (inr a) (inr b) = (_, r, refl, too_late net r m rows a b h at)
      go (inr a) (inl b) = (
        _,
        moving net r m,
        refl,
        step_carries net r (moving net r m) m (behind net r m) rows (filling net r m rows) (out net r m) (passes net r m) (moved net r m) (filled net r m rows a) (is_asked net r m) a b lawful h at,
      )

  more_link : (n : ℕ) → More net h (to_ask_link n)
  unfolding More
  more_link zero = (_, r, refl, no_link net r 0 (inl (omega arith)) h at)
  more_link (suc i) = go (cases_lt i net.links)
    where
      go : (i < net.links) ⊎ (net.links ≤ i) → More net h (to_ask_link (suc i))
      go (inl k) = (ask_link (i + 1) (told (state_now net r i)), r, ap to_ask_link (add-one i), link_tells net r i k h at)
      go (inr k) = (_, r, refl, no_link net r (suc i) (inr (omega arith)) h at)

  more_entrance : (e : ℕ) → More net h (to_ask_entrance e)
  unfolding More
  more_entrance e = go (entrance? net e)
    where
      go : ((j : ℕ) × Entrance net e j) ⊎ ((j : ℕ) → Entrance net e j → ⊥) → More net h (to_ask_entrance e)
      go (inl q) = (_, r, refl, entrance_tells net r e q.0 q.1 h at)
      go (inr f) = (_, r, refl, no_entrance net r e f h at)

  more_exit : (x : ℕ) → More net h (to_ask_exit x)
  unfolding More
  more_exit x = go (exit? net x)
    where
      go : ((i : ℕ) × Exit net x i) ⊎ ((i : ℕ) → Exit net x i → ⊥) → More net h (to_ask_exit x)
      go (inl q) = (_, r, refl, exit_tells net r x q.0 q.1 h at)
      go (inr f) = (_, r, refl, no_exit net r x f h at)

  more : (q : Call) → Lawfully q → More net h q
  more (to_book e x n) u = more_book e x n
  more (to_step m rows) u = more_step m rows u
  more (to_ask_link n) u = more_link n
  more (to_ask_entrance e) u = more_entrance e
  more (to_ask_exit x) u = more_exit x

-- a moment behind every list of calls
pub moment_there : (net : Net) → Sound net → (calls : List Call) → AllByRecursion Lawfully calls → (h : History) × (r : RunNow) × (map call h ≡ calls) × Moment net h r
unfolding More
moment_there net sound [] a = ([], unopened, refl, opening_starts net sound unopened (is_opened net))
moment_there net sound (q ∷ calls) a =
    let p = moment_there net sound calls a.1 in let s = more net p.0 p.1 p.3 q a.0 in
    (s.0 ∷ p.0, s.1, ap₂ {C = List Call} (λ x xs. x ∷ xs) s.2 p.2, s.3)

pub plain_run_there : PlainRunThere
plain_run_there net sound calls a = let p = moment_there net sound calls a in (p.0, p.3.curves, p.2, p.3.follows)
