-- Bounds of one step, and of a lawful timeline.
use Rattle.newell.specs.declared.records.Vehicle.{Vehicle}
use Rattle.std.proofs.Common.{◌≡◌, ℕ, zero, suc, ◌+◌, ◌-◌, ◌<◌, ◌≤◌, ◌⊎◌, List, [], ◌∷◌, ◌++◌, map, length, get_or, take, sym, refl, ap, ◌∙◌, subst, inl, inr, le_trans, add-zero, add-suc, add-one, arith, length-append, length-drop, length-take}
use lib.ListN.{length-map}
use Rattle.std.specs.List.{AllByRecursion}
use Rattle.std.proofs.ByRecursion.{All-map, All-get_or}
use Rattle.std.proofs.lemmas.List.{get_or_append_left, get_or-append_right}
use Rattle.std.proofs.lemmas.Bool.{cases_lt}
use Rattle.std.proofs.lemmas.List.Sums.{count_by-le-length, length-filter}
use Rattle.network.specs.Net.{Net, Sound, entering, leaving, Served}
use Rattle.merge.specs.Rules.{Meaning, Askable, Proper, Lawful}
use Rattle.newell.specs.Plain.{Curves, U, V, S, R, on, leavers, towards, arrivals, question, Law}
use Rattle.newell.proofs.Timeline.{Timeline}
use Rattle.network.proofs.Places.{In, entered, left_from, End, exits, passes, first_leg, second_leg, branches, Start, begins, follows, joins, first_branch, second_branch, end, start}

-- nobody is booked where links enter
pub none_booked : (net : Net) (e i : ℕ) (is : List ℕ) (xs : List ℕ) → entering net e ≡ i ∷ is → AllByRecursion (λ x. (n : ℕ) × Served net e x n) xs → xs ≡ []
none_booked net e i is [] h k = refl
none_booked net e i is (x ∷ xs) h k = let r = k.0.1.1.0 in let z : [] ≡ i ∷ is = sym r ∙ h in let q : [] ≡ x ∷ xs = cc in sym q

-- a step asks what a rule may be asked
pub askable : (net : Net) (sound : Sound net) (c : Curves) (n i i' j t : ℕ) → t < 1000000 → entering net n ≡ i ∷ i' ∷ [] → leaving net n ≡ j ∷ [] → Askable (question net c i i' j t)
askable net sound c n i i' j t early e l =
    let a = (sound.link i (entered net n i (subst (In i) (sym e) (inl refl))).0).capacity_most in
    let b = (sound.link i' (entered net n i' (subst (In i') (sym e) (inr (inl refl)))).0).capacity_most in
    let d = (sound.link j (left_from net n j (subst (In j) (sym l) (inl refl))).0).capacity_most in
    record { clock = omega arith; s1 = omega arith; s2 = omega arith; r = omega arith; q1 = omega arith; q2 = omega arith }

-- so its splits are proper
pub proper : (net : Net) (sound : Sound net) (c : Curves) (m : Meaning) → Lawful m → (n i i' j t : ℕ) → t < 1000000 → entering net n ≡ i ∷ i' ∷ [] → leaving net n ≡ j ∷ []
    → Proper (m.limits n t) (question net c i i' j t) (m.splits n [] (question net c i i' j t))
proper net sound c m keeps n i i' j t b e l =
    let p = entered net n i (subst (In i) (sym e) (inl refl)) in let q = (sound.link i p.0).to_node in
    keeps.splits n [] (question net c i i' j t) (omega (arith, p.1, q, sound.nodes_most)) tt (askable net sound c n i i' j t b e l)

module _ (net : Net) (sound : Sound net) (c : Curves) (booked : ℕ → List ℕ) (m : Meaning) (t : ℕ)
    (law : Law net c booked m t) (keeps : Lawful m) (early : t < 1000000) (served : (e : ℕ) → AllByRecursion (λ x. (n : ℕ) × Served net e x n) (booked e)) where
  -- a link sends at most S
  pub sends : (i : ℕ) → i < net.links → (k : ℕ) × (V net c i (t + 1) ≡ V net c i t + k) × (k ≤ S net c i t)
  sends i h = go (end net sound i h)
    where
      go : End net i → (k : ℕ) × (V net c i (t + 1) ≡ V net c i t + k) × (k ≤ S net c i t)
      go (exits e l) = (_, law.exit _ i e l, omega arith)
      go (passes j e l) = (_, law.mainline _ i j e l, omega arith)
      go (first_leg i' j e l) = (_, (law.merge _ i i' j e l).0, omega (arith, (proper net sound c m keeps _ i i' j t early e l).first))
      go (second_leg i' j e l) = (_, (law.merge _ i' i j e l).1, omega (arith, (proper net sound c m keeps _ i' i j t early e l).second))
      go (branches j j' e l) = let d = law.diverge _ i j j' e l in (d.0, d.1, d.2.holds.sent)

  -- those that leave are as many as V says, as long as the link holds them
  leavers_le : (i : ℕ) → length (leavers net c i t) ≤ V net c i (t + 1) - V net c i t
  leavers_le i = simp length-take (omega arith)

  towards_le : (i j : ℕ) (vs : List Vehicle) → length (map {B = ℕ} (λ v. v.exit) (towards net i j vs)) ≤ length vs
  towards_le i j vs = simp (length-map, length-filter) (count_by-le-length _ vs)

  eq_le : (i j k : ℕ) → V net c i (t + 1) ≡ V net c i t + k
      → length (map {B = ℕ} (λ v. v.exit) (towards net i j (leavers net c i t))) ≡ length (towards net i j (take k (on net c i t)))
  eq_le i j k e = let h : V net c i (t + 1) - V net c i t ≡ k = omega arith in simp (length-map, h)

  -- a link takes at most R
  pub takes : (j : ℕ) → j < net.links → length (arrivals net c (booked (net.link j).from) j t) ≤ R net c j t
  takes j h = go (start net sound j h)
    where
      go : Start net j → length (arrivals net c (booked (net.link j).from) j t) ≤ R net c j t
      go (begins e l) = rw e (simp (length-append, length-take) (omega arith))
      go (follows i e l) = let b = ap length (none_booked net _ i [] _ e (served (net.link j).from)) in
          rw e (simp (length-append, length-take, length-drop) (omega (arith, b, towards_le i j (leavers net c i t), leavers_le i, law.mainline _ i j e l)))
      go (joins i i' e l) = let b = ap length (none_booked net _ i (i' ∷ []) _ e (served (net.link j).from)) in
          rw e (simp (length-append, length-take, length-drop) (omega (
            arith,
            b,
            towards_le i j (leavers net c i t),
            leavers_le i,
            towards_le i' j (leavers net c i' t),
            leavers_le i',
            law.merge _ i i' j e l,
            proper net sound c m keeps _ i i' j t early e l,
          )))
      go (first_branch i j' e l) = let b = ap length (none_booked net _ i [] _ e (served (net.link j).from)) in
          let d = law.diverge _ i j j' e l in
          rw e (simp (length-append, length-take, length-drop) (omega (arith, b, eq_le i j d.0 d.1, d.2.holds.one)))
      go (second_branch i j' e l) = let b = ap length (none_booked net _ i [] _ e (served (net.link j).from)) in
          let d = law.diverge _ i j' j e l in
          rw e (simp (length-append, length-take, length-drop) (omega (arith, b, eq_le i j d.0 d.1, d.2.holds.other)))

  -- what comes on and what leaves, as numbers
  pub came_on : (j : ℕ) → j < net.links → U net c j (t + 1) ≡ U net c j t + length (arrivals net c (booked (net.link j).from) j t)
  came_on j h = ap length (law.arrive j h) ∙ simp (length-append, length-map)

-- bounds over a timeline
module _ (net : Net) (sound : Sound net) (c : Curves) (T : ℕ) (booked : ℕ → ℕ → List ℕ) (m : ℕ → Meaning) (lawful : Timeline net c T booked m) where
  pub out : (t i : ℕ) → t < T → i < net.links → (k : ℕ) × (V net c i (t + 1) ≡ V net c i t + k) × (k ≤ S net c i t)
  out t i h l = sends net sound c (booked t) (m t) t (lawful.law t h) (lawful.keeps t h) (omega (arith, lawful.early)) (λ e. lawful.served t e (omega arith)) i l

  pub inn : (t j : ℕ) → t < T → j < net.links → (k : ℕ) × (U net c j (t + 1) ≡ U net c j t + k) × (k ≤ R net c j t)
  inn t j h l = (
    _,
    came_on net sound c (booked t) (m t) t (lawful.law t h) (lawful.keeps t h) (omega (arith, lawful.early)) (λ e. lawful.served t e (omega arith)) j l,
    takes net sound c (booked t) (m t) t (lawful.law t h) (lawful.keeps t h) (omega (arith, lawful.early)) (λ e. lawful.served t e (omega arith)) j l,
  )

  -- the curves rise
  pub v_rises : (i s k : ℕ) → i < net.links → s + k ≤ T → V net c i s ≤ V net c i (s + k)
  v_rises i s zero h l = rw add-zero (omega arith)
  v_rises i s (suc k) h l = let r = v_rises i s k h (omega arith) in let o = out (s + k) i (omega arith) h in
      rw (add-suc, ← add-one) (omega arith)

  pub u_rises : (i s k : ℕ) → i < net.links → s + k ≤ T → U net c i s ≤ U net c i (s + k)
  u_rises i s zero h l = rw add-zero (omega arith)
  u_rises i s (suc k) h l = let r = u_rises i s k h (omega arith) in let o = inn (s + k) i (omega arith) h in
      rw (add-suc, ← add-one) (omega arith)

  pub v_mono : (i s t : ℕ) → i < net.links → s ≤ t → t ≤ T → V net c i s ≤ V net c i t
  v_mono i s t h l k = let e : s + (t - s) ≡ t = omega arith in rw e at (v_rises i s (t - s) h (omega arith))

  pub u_mono : (i s t : ℕ) → i < net.links → s ≤ t → t ≤ T → U net c i s ≤ U net c i t
  u_mono i s t h l k = let e : s + (t - s) ≡ t = omega arith in rw e at (u_rises i s (t - s) h (omega arith))

  -- no more leave than came on
  pub v_le_u : (i t : ℕ) → i < net.links → t ≤ T → V net c i t ≤ U net c i t
  v_le_u i zero h l = omega (arith, lawful.new_left i h)
  v_le_u i (suc t) h l = let o = out t i l h in let v = v_le_u i t h (omega arith) in let q = inn t i l h in
      let f = u_mono i (t + 1 - (net.link i).free) t h (omega (arith, (sound.link i h).free_least)) (omega arith) in
      rw (← add-one) (omega arith)

  -- no link holds more than its jam storage
  pub storage : (i t : ℕ) → i < net.links → t ≤ T → U net c i t ≤ V net c i t + (net.link i).storage
  storage i zero h l = omega (arith, ap length (lawful.new_came i h))
  storage i (suc t) h l = let q = inn t i l h in let o = out t i l h in let s = storage i t h (omega arith) in
      let f = v_mono i (t + 1 - (net.link i).wave) t h (omega (arith, (sound.link i h).wave_least)) (omega arith) in
      rw (← add-one) (omega arith)

  -- nor passes more than its capacity at either end in a step
  pub capacity_in : (i t : ℕ) → i < net.links → t < T → U net c i (t + 1) ≤ U net c i t + (net.link i).capacity
  capacity_in i t h l = let q = inn t i l h in omega arith

  pub capacity_out : (i t : ℕ) → i < net.links → t < T → V net c i (t + 1) ≤ V net c i t + (net.link i).capacity
  capacity_out i t h l = let q = out t i l h in omega arith

  -- none leaves before its free steps are over, in counts: all that have left by t had come on by t - f
  pub free_first : (i t : ℕ) → i < net.links → t ≤ T → V net c i t ≤ U net c i (t - (net.link i).free)
  free_first i zero h l = omega (arith, lawful.new_left i h)
  free_first i (suc t) h l = let o = out t i l h in let v = free_first i t h (omega arith) in
      let f = u_mono i (t - (net.link i).free) (t + 1 - (net.link i).free) h (omega arith) (omega (arith, (sound.link i h).free_least)) in
      rw (← add-one) (omega arith)

  -- a vehicle on a link carries the first clock at which the link's U passed its place
  pub record Since (i t k : ℕ) (v : Vehicle) : Type 0 where
    pub reached : k < U net c i v.since
    pub before : (s : ℕ) → s < v.since → U net c i s ≤ k
    pub now : v.since ≤ t

  -- the prefix of those that came on by an earlier clock
  pub earlier : (i t : ℕ) → i < net.links → t < T → (vs : List Vehicle) × (c.came i (t + 1) ≡ c.came i t ++ vs) × AllByRecursion (λ v. v.since ≡ t + 1) vs
  earlier i t h l = (_, (lawful.law t l).arrive i h, All-map _ _ _ (all_true _))
    where
      all_true : (xs : List ℕ) → AllByRecursion (λ x. t + 1 ≡ t + 1) xs
      all_true [] = tt
      all_true (x ∷ xs) = (refl, all_true xs)

  pub since : (i t k : ℕ) (d : Vehicle) → i < net.links → t ≤ T → k < U net c i t → Since i t k (get_or (c.came i t) k d)
  since i zero k d h l q = absurd (omega (arith, ap length (lawful.new_came i h)))
  since i (suc t) k d h l q = rw (← add-one t) (go (cases_lt k (U net c i t)) (since i t k d h (omega arith)))
    where
      r : (vs : List Vehicle) × (c.came i (t + 1) ≡ c.came i t ++ vs) × AllByRecursion (λ v. v.since ≡ t + 1) vs
      r = earlier i t h l

      count : U net c i (t + 1) ≡ U net c i t + length r.0
      count = ap length r.1 ∙ length-append (c.came i t) r.0

      fresh : (v : Vehicle) → U net c i t ≤ k → v.since ≡ t + 1 → Since i (t + 1) k v
      fresh v g e = record {
        reached = rw (e, add-one) q;
        before = λ s w. le_trans (u_mono i s t h (omega arith) (omega arith)) g;
        now = omega arith;
      }

      go : (k < U net c i t) ⊎ (U net c i t ≤ k) → (k < U net c i t → Since i t k (get_or (c.came i t) k d)) → Since i (t + 1) k (get_or (c.came i (t + 1)) k d)
      go (inl w) rec = let z = rec w in rw (r.1, get_or_append_left (c.came i t) r.0 d k w) (record { reached = z.reached; before = z.before; now = omega arith })
      go (inr w) rec = rw (r.1, get_or-append_right (c.came i t) r.0 (U net c i t) k d refl w)
          (fresh _ w (All-get_or (λ v. v.since ≡ t + 1) r.0 (k - U net c i t) d (let q' : k < U net c i (t + 1) = rw add-one q in omega (arith, count)) r.2))

  -- of vehicles: one that leaves in the step from t has its free steps over
  pub free_over : (i t k : ℕ) (d : Vehicle) → i < net.links → t < T → k < V net c i (t + 1)
      → (get_or (c.came i (t + 1)) k d).since + (net.link i).free ≤ t + 1
  free_over i t k d h l q = go (cases_lt (t + 1) (net.link i).free) (cases_lt (t + 1 - (net.link i).free) (get_or (c.came i (t + 1)) k d).since)
    where
      ff : V net c i (t + 1) ≤ U net c i (t + 1 - (net.link i).free)
      ff = free_first i (t + 1) h (omega arith)

      go : (t + 1 < (net.link i).free) ⊎ ((net.link i).free ≤ t + 1)
          → (t + 1 - (net.link i).free < (get_or (c.came i (t + 1)) k d).since) ⊎ ((get_or (c.came i (t + 1)) k d).since ≤ t + 1 - (net.link i).free)
          → (get_or (c.came i (t + 1)) k d).since + (net.link i).free ≤ t + 1
      go (inl w) y = let e : t + 1 - (net.link i).free ≡ 0 = omega arith in let g : V net c i (t + 1) ≤ U net c i 0 = rw e at ff in
          absurd (omega (arith, g, q, ap length (lawful.new_came i h)))
      go (inr w) (inl y) = absurd (omega (arith, ff, q, (since i (t + 1) k d h (omega arith) (omega (arith, v_le_u i (t + 1) h (omega arith)))).before _ y))
      go (inr w) (inr y) = omega arith
