-- From what the parts of a step show to what the step makes of the run.
use Rattle.std.proofs.Common.{◌≡◌, ℕ, zero, suc, ◌+◌, ◌-◌, ◌*◌, ◌^◌, ◌<◌, ◌≤◌, Bool, true, false, cond, eqb, List, [], ◌∷◌, ◌++◌, map, length, get_or, take, drop, Some, None, Option, sym, refl, ap, ◌∙◌, ap₂, append_assoc, append-nil, arith, length-append, length-drop, eq-eqb}
use Rattle.std.specs.List.{flat_map}
use Rattle.std.proofs.ByRecursion.{All-get_or}
use Rattle.std.proofs.lemmas.Bool.{both_ways}
use Rattle.std.proofs.lemmas.List.{take-map, drop-map}
use Rattle.newell.specs.declared.records.Vehicle.{Vehicle}
use Rattle.newell.specs.declared.records.StepRow.{StepRow}
use Rattle.network.specs.Net.{Net, Sound, places}
use Rattle.merge.specs.Rules.{Meaning, Lawful}
use Rattle.newell.specs.History.{final}
use Rattle.newell.specs.Now.{RunNow, sends, takes, arrive, leave, Passes, Moved, RowsNow, AskedNow, Safe, Reached}
use Rattle.newell.specs.Now as now
use Rattle.newell.proofs.Safety.{reached_le}
use Rattle.newell.proofs.Carried.{outgoing, incoming}
use Rattle.network.specs.declared.network.Network.{Network}
use Rattle.network.specs.Nets.{net_of}
use Rattle.network.specs.Layouts.{link_of}
use Rattle.network.proofs.Rights.{right_of}
use Rattle.network.proofs.Nexts.{next_in}
use Rattle.links.specs.declared.records.Yard.{Yard}
use Rattle.links.specs.Yards.{holds, gauge_of, size_of, spots_of}
use Rattle.links.proofs.Keeping.{laid_of, all_full}
use Rattle.flow.specs.Flows.{going, stamped, exits, nobody, came_by, Shifted, Shiftable}
use Rattle.flow.specs.Flows as flows
use Rattle.flow.proofs.Going.{going_nobody, stamped_length}
use Rattle.flow.proofs.Pulling.{exits_length}
use Rattle.links.specs.Readings.{back}
use Rattle.links.specs.Tables.{Gauge}
use Rattle.plan.specs.View.{view_of, ons, offs, sends_of, takes_of, Readable}
use Rattle.plan.specs.Plans.{Plannable}
use Rattle.step.specs.Notes.{Written, Still}
use Rattle.line.specs.Spots.{written as inked}
use Rattle.links.proofs.Spacing.{beyond_more}
use Rattle.step.specs.Steps.{Built, Stepped, Advanced}

joined_append : {A B : Type 0} (f : A → List B) (xs ys : List A) → flat_map f (xs ++ ys) ≡ flat_map f xs ++ flat_map f ys
joined_append f [] ys = refl
joined_append f (x ∷ xs) ys = ap (λ zs. f x ++ zs) (joined_append f xs ys) ∙ sym (append_assoc (f x) (flat_map f xs) (flat_map f ys))

-- those that come from links, link by link
came_joined : (net : Net) (on : ℕ → List Vehicle) (k : ℕ → ℕ) (p : ℕ → Bool) (n j : ℕ)
    → ((i : ℕ) → i < n → p i ≡ false → going net i j (take (k i) (on i)) ≡ [])
    → flat_map (λ i. going net i j (take (k i) (on i))) (places p n) ≡ came_by net on k n j
came_joined net on k p zero j h = refl
came_joined net on k p (suc n) j h =
    joined_append (λ i. going net i j (take (k i) (on i))) (places p n) (cond (p n) (n ∷ []) [])
    ∙ ap₂ (λ xs ys. xs ++ ys) (came_joined net on k p n j (λ i l e. h i (omega arith) e)) (last (p n) refl)
  where
    last : (b : Bool) → p n ≡ b → flat_map (λ i. going net i j (take (k i) (on i))) (cond b (n ∷ []) []) ≡ going net n j (take (k n) (on n))
    last true e = append-nil (going net n j (take (k n) (on n)))
    last false e = sym (h n (omega arith) e)

map_take : (n : ℕ) (vs : List Vehicle) → take n (exits vs) ≡ exits (take n vs)
unfolding exits
map_take n vs = take-map (λ v. v.exit) n vs

map_drop : (n : ℕ) (vs : List Vehicle) → drop n (exits vs) ≡ exits (drop n vs)
unfolding exits
map_drop n vs = drop-map (λ v. v.exit) n vs

pub blank_row : StepRow
blank_row = record { came = 0; left = 0; travel = None }

-- what stays built where the sizes stay
pub built_on : (net : Net) (y y' : Yard) → Built net y → ((l : ℕ) → size_of y' l ≡ size_of y l) → Built net y'
built_on net y y' b same = record {
  full = all_full y';
  laid = laid_of y';
  sizes = λ i l. same i ∙ b.sizes i l;
  waits = λ e j w. same (48 + j) ∙ b.waits e j w;
}

module _ (n : Network) (y : Yard) (t : ℕ) (built : Built (net_of n) y) (reached : Reached (net_of n) (view_of y t)) where
  le : {a b : ℕ} → (Sound (net_of n) → Safe (net_of n) (view_of y t) → a ≤ b) → a ≤ b
  le {a} {b} f = reached_le (net_of n) (view_of y t) a b reached f

  pub readable : (i : ℕ) → i < (net_of n).links → Readable (net_of n) y i
  readable i l = record {
    sending = le (λ s f. (f.link i l).sending);
    taking = le (λ s f. (f.link i l).taking);
  }

  holding : (i : ℕ) → i < (net_of n).links → offs y i 0 + length (holds y i) ≡ ons y i 0
  holding i l =
      let a : offs y i 0 + length (holds y i) ≤ ons y i 0 = le (λ s f. omega (arith, (f.link i l).holding)) in
      let b : ons y i 0 ≤ offs y i 0 + length (holds y i) = le (λ s f. omega (arith, (f.link i l).holding)) in
      omega arith

  sends_held : (i : ℕ) → i < (net_of n).links → sends_of (net_of n) y i ≤ length (holds y i)
  sends_held i l =
      let a : ons y i ((link_of n.layout i).free - 1) ≤ ons y i 0 = le (λ s f. (f.link i l).arriving) in
      omega (arith, a, holding i l)

  pub plannable : Plannable (net_of n) y
  plannable = record { full = built.full; laid = built.laid; safe = readable; enough = sends_held }

  module _ (early : t < 1000000) (m : Meaning) (keeps : Lawful m) (rr k : ℕ → ℕ) (passes : (q : ℕ) → Passes (net_of n) (view_of y t) m k q)
      (caps : (j : ℕ) → j < (net_of n).links → rr j ≡ takes_of (net_of n) y j) where
    arrive_is : (j : ℕ) → j < (net_of n).links → arrive (net_of n) (view_of y t) k j ≡ exits (take (rr j) (holds y (48 + j))) ++ came_by (net_of n) (holds y) k (net_of n).links j
    unfolding going
    arrive_is j l = ap₂ (λ (xs ys : List ℕ). xs ++ ys)
        (ap (λ q. take q (exits (holds y (48 + j)))) (sym (caps j l)) ∙ map_take (rr j) (holds y (48 + j)))
        (came_joined (net_of n) (holds y) k (λ i. eqb (link_of n.layout i).to (link_of n.layout j).from) (net_of n).links j
        (λ i h e. going_nobody (net_of n) i j (take (k i) (holds y i)) (λ x f. both_ways _ e (eq-eqb _ _ (sym (next_in n.layout (right_of n) i h x j f).1)))))

    arrive_count : (j : ℕ) → j < (net_of n).links → length (arrive (net_of n) (view_of y t) k j) ≡ length (take (rr j) (holds y (48 + j))) + length (came_by (net_of n) (holds y) k (net_of n).links j)
    arrive_count j l = ap length (arrive_is j l) ∙ length-append (exits (take (rr j) (holds y (48 + j)))) (came_by (net_of n) (holds y) k (net_of n).links j)
        ∙ ap (λ q. q + length (came_by (net_of n) (holds y) k (net_of n).links j)) (exits_length (take (rr j) (holds y (48 + j))))

    enough : (i : ℕ) → i < (net_of n).links → k i ≤ length (holds y i)
    enough i l = let a = outgoing (net_of n) (view_of y t) m k passes keeps early reached i l in omega (arith, a, sends_held i l)

    room : (j : ℕ) → j < (net_of n).links → length (holds y j) + length (arrive (net_of n) (view_of y t) k j) ≤ (link_of n.layout j).storage
    room j l =
        let a = incoming (net_of n) (view_of y t) m k passes keeps early reached j l in
        let b : offs y j ((link_of n.layout j).wave - 1) ≤ offs y j 0 = le (λ s f. (f.link j l).waving) in
        omega (arith, a, b, holding j l, (readable j l).taking)

    pub shiftable : Shiftable (net_of n) t rr k y
    shiftable = record {
      enough = enough;
      past = λ i q l h. le (λ s f. All-get_or (λ (v : Vehicle). v.since ≤ t) (holds y i) q nobody (omega (arith, enough i l)) (f.link i l).since);
      room = λ j l. omega (arith, arrive_count j l, room j l, built.sizes j l);
    }

    module _ (y' : Yard) (s : Shifted (net_of n) t rr k y y') where
      pub after_count : (j : ℕ) → j < (net_of n).links → offs y j 0 + k j + length (holds y' j) ≡ ons y j 0 + length (arrive (net_of n) (view_of y t) k j)
      after_count j l =
          let a = ap length (s.cars j l) ∙ length-append (drop (k j) (holds y j)) (stamped t (exits (take (rr j) (holds y (48 + j))) ++ came_by (net_of n) (holds y) k (net_of n).links j)) in
          let b = stamped_length t (exits (take (rr j) (holds y (48 + j))) ++ came_by (net_of n) (holds y) k (net_of n).links j) in
          let c = ap length (arrive_is j l) in
          omega (arith, a, b, c, length-drop (k j) (holds y j), enough j l, holding j l)

      same_off : (i q : ℕ) → offs y' i q ≡ offs y i q
      same_off i q = ap (λ (g : Gauge). back g.offs q) (s.gauges i)

      same_on : (i q : ℕ) → ons y' i q ≡ ons y i q
      same_on i q = ap (λ (g : Gauge). back g.ons q) (s.gauges i)

      pub after_more : (j : ℕ) → j < (net_of n).links → ons y' j 0 ≤ offs y' j 0 + k j + length (holds y' j)
      after_more j l = omega (arith, after_count j l, same_off j 0, same_on j 0)

      pub after_small : (j : ℕ) → j < (net_of n).links → (length (holds y' j) < 2 ^ 32) × (offs y' j 0 + k j + length (holds y' j) < 2 ^ 32)
      after_small j l =
          let a : ((net_of n).link j).storage ≤ 2000 = le (λ s f. (s.link j l).storage_most) in
          let b : ons y j 0 ≤ 200 * t = le (λ s f. (f.link j l).small) in
          let c : t ≤ 1000000 = le (λ s f. f.early) in
          let d = room j l in
          let e = after_count j l in
          let q = same_off j 0 in
          (omega (arith, a, b, c, d, e), omega (arith, a, b, c, d, e, q))

      module _ (y'' : Yard) (still : Still y' y'') (m' : Meaning) (rows rows' : List StepRow) (time : ℕ → Option ℕ)
          (times : (i : ℕ) → i < (net_of n).links → time i ≡ flows.lasted t (final (take (k i) (holds y i))))
          (written : (i : ℕ) (d : StepRow) → i < (net_of n).links → Written (gauge_of y' i) (k i) (length (holds y' i)) (time i) (get_or rows' i d) (gauge_of y'' i))
          (beyond : (i : ℕ) (d : StepRow) → (net_of n).links ≤ i → get_or rows' i d ≡ get_or rows i d)
          (wide : length rows' ≡ length rows) (asked : AskedNow (net_of n) (view_of y t) m m') where
        lasted_same : (o : Option Vehicle) → flows.lasted t o ≡ now.lasted (net_of n) (view_of y t) k o
        lasted_same None = refl
        lasted_same (Some v) = refl

        time_is : (i : ℕ) → i < (net_of n).links → time i ≡ now.lasted (net_of n) (view_of y t) k (final (leave (net_of n) (view_of y t) k i))
        time_is i l = times i l ∙ lasted_same (final (take (k i) (holds y i)))

        moved_cars : (j : ℕ) → j < (net_of n).links → holds y'' j ≡ drop (k j) (holds y j) ++ map (λ x. record { exit = x; since = t + 1 }) (arrive (net_of n) (view_of y t) k j)
        unfolding stamped
        moved_cars j l = still.holds j ∙ (s.cars j l ∙ ap (λ xs. drop (k j) (holds y j) ++ map (λ x. record { exit = x; since = t + 1 }) xs) (sym (arrive_is j l)))

        moved : Moved (net_of n) (view_of y t) k (view_of y'' (t + 1))
        moved = record {
          clock = refl;
          ons = λ i q l h. (written i blank_row l).on.older q h ∙ same_on i q;
          offs = λ i q l h. (written i blank_row l).off.older q h ∙ same_off i q;
          come = λ j l. omega (arith, (written j blank_row l).on.newest, same_off j 0, after_count j l);
          go = λ i l. omega (arith, (written i blank_row l).off.newest, same_off i 0);
          cars = moved_cars;
          travel = λ i l. (written i blank_row l).travel ∙ time_is i l;
          queue = λ j l. ap exits (still.holds (48 + j) ∙ s.waits j l) ∙ sym (map_drop (rr j) (holds y (48 + j))) ∙ ap (λ q. drop q (exits (holds y (48 + j)))) (caps j l);
        }

        filled : RowsNow (net_of n) (view_of y t) k rows rows'
        filled = record {
          as_many = wide;
          filled = λ i d l.
              let e : offs y' i 0 + k i + length (holds y' i) - ons y' i 0 ≡ length (arrive (net_of n) (view_of y t) k i) = omega (arith, after_count i l, same_off i 0, same_on i 0) in
              let f = time_is i l in
              (written i d l).told ∙ (λ z. record { came = e z; left = k i; travel = f z });
          beyond = beyond;
        }

        pub stepped : Stepped (net_of n) (view_of y t) m rows (view_of y'' (t + 1)) m' rows'
        stepped = record { out = k; passes = passes; moved = moved; filled = filled; asked = asked }

        pub advanced : Advanced (net_of n) t y m rows y'' m' rows'
        unfolding stamped stepped
        advanced = record {
          stepped = stepped;
          area = record {
            roads = λ j l. still.spots j ∙ (s.spots j l ∙ ap (λ xs. inked (spots_of y j) (map (λ x. record { exit = x; since = t + 1 }) xs)) (sym (arrive_is j l)));
            queues = λ j l. still.spots (48 + j) ∙ s.rests j l;
            idle = λ j l h. still.spots j ∙ (s.idle j l h).2;
            beyond = beyond_more y y' y'' s.beyond still.beyond;
          };
        }
