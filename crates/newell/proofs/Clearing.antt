-- All that are in a run are gone after enough steps.
use Rattle.newell.specs.declared.records.Vehicle.{Vehicle}
use Rattle.std.proofs.Common.{◌≡◌, ℕ, zero, suc, ◌+◌, ◌-◌, ◌*◌, ◌<◌, ◌≤◌, ◌⊎◌, List, [], ◌∷◌, map, length, take, drop, sum_by, sym, refl, ap, ◌∙◌, subst, inl, inr, add-zero, add-suc, add-one, arith, length-append, length-drop, length-take}
use mathlib.Core.Path.{fun_ext}
use Rattle.std.specs.List.{flat_map, AllByRecursion}
use Rattle.std.proofs.lemmas.List.{nil_from_length}
use Rattle.std.proofs.lemmas.List.Sums.{sum_by-cons}
use Rattle.std.proofs.ByRecursion.{sum_by_le, All-drop, All-weaker}
use Rattle.std.proofs.lemmas.Bool.{cases_lt}
use Rattle.network.specs.Net.{Net, Sound, Walk, there, along, next, entering, Served, LongestSteps}
use Rattle.merge.specs.Rules.{Meaning}
use Rattle.newell.specs.Plain.{Curves, U, V, R, on, leavers, towards, waiting}
use Rattle.newell.proofs.Timeline.{Timeline}
use Rattle.newell.specs.Promise.{Opens}
use Rattle.newell.specs.Promise.{Empty, in_run}
use Rattle.network.proofs.Places.{In, entered}
use Rattle.newell.proofs.Bounds.{came_on, out, u_mono}
use Rattle.newell.proofs.Totals.{total, total_le, total_none, total_at}
use Rattle.newell.proofs.Weights.{onto, Bound, ends_walk, wait_bound, came_bound, waits, drives, admitted, released, step_law}
use Rattle.newell.proofs.Still.{no_vehicle, no_wait}

-- the links that are left to a vehicle for the exit x on the link i, if they are at most k
abbrev pub togo : Net → ℕ → ℕ → ℕ → ℕ
togo net zero i x = 0
togo net (suc k) i x = suc (onto (next net i x) (λ j. togo net k j x))

pub togo_walk : (net : Net) (x : ℕ) (k : ℕ) {i n : ℕ} → Walk net x i n → n ≤ k → togo net k i x ≡ n
togo_walk net x zero (there {i = i} e l) h = absurd (omega arith)
togo_walk net x (suc k) (there {i = i} e l) h = ap (λ o. suc (onto o (λ j. togo net k j x))) (ends_walk net i x e l)
togo_walk net x zero (along e r) h = absurd (omega arith)
togo_walk net x (suc k) (along {i = i} {j = j} {n = n} e r) h =
    ap (λ o. suc (onto o (λ j. togo net k j x))) e ∙ ap suc (togo_walk net x k r (omega arith))

pub togo_on : (net : Net) (h i x : ℕ) → Bound net h i x → togo net h i x ≡ 1 + onto (next net i x) (λ j. togo net h j x)
togo_on net h i x b = go b.1 b.2
  where
    go : {i n : ℕ} → Walk net x i n → n ≤ h → togo net h i x ≡ 1 + onto (next net i x) (λ j. togo net h j x)
    go (there {i = i} e l) q = togo_walk net x h (there e l) q ∙ sym (ap (λ o. 1 + onto o (λ j. togo net h j x)) (ends_walk net i x e l))
    go (along {i = i} {j = j} {n = n} e r) q = let z = togo_walk net x h r (omega arith) in
        togo_walk net x h (along e r) q ∙ sym (ap (λ o. 1 + onto o (λ j. togo net h j x)) e ∙ omega arith)

pub sum_ones : {X : Type 0} (xs : List X) → sum_by {X = X} (λ x. 1) xs ≡ length xs
sum_ones [] = refl
sum_ones (x ∷ xs) = omega (arith, sum_by-cons (λ x. 1) x xs, sum_ones xs)

joined_nil : {X : Type 0} (g : ℕ → List X) (is : List ℕ) → ((i : ℕ) → In i is → g i ≡ []) → flat_map g is ≡ []
joined_nil g [] h = refl
joined_nil g (i ∷ is) h = rw (h i (inl refl)) (joined_nil g is (λ k q. h k (inr q)))

length_le_sum : {X : Type 0} (f : X → ℕ) (xs : List X) → AllByRecursion (λ x. 1 ≤ f x) xs → length xs ≤ sum_by f xs
length_le_sum f [] h = omega arith
length_le_sum f (x ∷ xs) h = omega (arith, sum_by-cons f x xs, length_le_sum f xs h.1)

abbrev pub one : ℕ → ℕ → ℕ
one i x = 1

module _ (net : Net) (sound : Sound net) (c : Curves) (T : ℕ) (booked : ℕ → ℕ → List ℕ) (m : ℕ → Meaning) (lawful : Timeline net c T booked m) where
  -- a step in which nothing moves
  quiet : (t : ℕ) → t < T → admitted net c one (booked t) t + released net c one t ≡ 0
      → (i : ℕ) → i < net.links → (U net c i (t + 1) ≡ U net c i t) × (V net c i (t + 1) ≡ V net c i t)
  unfolding admitted released
  quiet t l p i k = (same_u, same_v i k)
    where
      none_leaves : (i : ℕ) → i < net.links → length (leavers net c i t) ≡ 0
      none_leaves i k = omega (arith, sum_ones (leavers net c i t), total_at net.links (λ i. sum_by (λ v. 1) (leavers net c i t)) i k, p)

      same_v : (i : ℕ) → i < net.links → V net c i (t + 1) ≡ V net c i t
      same_v i k = let o = out net sound c T booked m lawful t i l k in
          let u = u_mono net sound c T booked m lawful i (t + 1 - (net.link i).free) t k (omega (arith, (sound.link i k).free_least)) (omega arith) in
          omega (arith, none_leaves i k, length-take (V net c i (t + 1) - V net c i t) (on net c i t), length-drop (V net c i t) (c.came i t))

      same_u : U net c i (t + 1) ≡ U net c i t
      same_u = let a = came_on net sound c (booked t) (m t) t (lawful.law t l) (lawful.keeps t l) (omega (arith, lawful.early)) (λ e. lawful.served t e (omega arith)) i k in
          let w : List ℕ = take (R net c i t) (waiting net c (booked t (net.link i).from) i t) in
          let b : length w ≡ 0 = omega (arith, sum_ones w, total_at net.links (λ j. sum_by {X = ℕ} (λ v. 1) (take (R net c j t) (waiting net c (booked t (net.link j).from) j t))) i k, p) in
          let d : flat_map (λ i'. map {B = ℕ} (λ v. v.exit) (towards net i' i (leavers net c i' t))) (entering net (net.link i).from) ≡ [] =
          joined_nil _ _ (λ i' q. let z : leavers net c i' t ≡ [] = nil_from_length _ (none_leaves i' (entered net _ i' q).0) in
          ap (λ vs. map (λ v. v.exit) (towards net i' i vs)) z) in
          omega (arith, a, length-append w (flat_map (λ i'. map {B = ℕ} (λ v. v.exit) (towards net i' i (leavers net c i' t))) (entering net (net.link i).from)), ap length d, b)

-- from the clock `from` on nobody is booked
module _ (net : Net) (sound : Sound net) (c : Curves) (T : ℕ) (booked : ℕ → ℕ → List ℕ) (m : ℕ → Meaning) (lawful : Timeline net c T booked m)
    (h : ℕ) (most : (e x n : ℕ) → Served net e x n → n ≤ h) (from : ℕ) (same : (s e : ℕ) → from ≤ s → s ≤ T → booked s e ≡ booked from e) where
  -- the moves that are left to those in the run
  unfoldable pub left : ℕ → ℕ
  left t = waits net c (λ j x. suc (togo net h j x)) (booked from) t + drives net c (togo net h) t

  moves : ℕ → ℕ
  moves t = admitted net c one (booked t) t + released net c one t

  left_falls : (t : ℕ) → from ≤ t → t < T → left t ≡ left (t + 1) + moves t
  unfolding left moves
  left_falls t a l = let e : booked t ≡ booked from = fun_ext (λ n. same t n a (omega arith)) in
      let s = step_law net sound c T booked m lawful h most (λ j x. suc (togo net h j x)) one (togo net h) one (λ j x b. omega arith) (togo_on net h) t l in
      let z : waits net c (λ j x. suc (togo net h j x)) (booked from) t + drives net c (togo net h) t
      ≡ waits net c (λ j x. suc (togo net h j x)) (booked from) (t + 1) + drives net c (togo net h) (t + 1) + (admitted net c one (booked t) t + released net c one t)
      = subst (λ b. waits net c (λ j x. suc (togo net h j x)) b t + drives net c (togo net h) t
      ≡ waits net c (λ j x. suc (togo net h j x)) b (t + 1) + drives net c (togo net h) (t + 1) + (admitted net c one (booked t) t + released net c one t)) e s in
      omega arith

  left_after : (t k : ℕ) → from ≤ t → t + k ≤ T → left t ≡ left (t + k) + total k (λ s. moves (t + s))
  left_after t zero a l = rw (add-zero t) (omega arith)
  left_after t (suc k) a l = let r = left_after t k a (omega arith) in let f = left_falls (t + k) (omega arith) (omega arith) in
      rw (add-suc, ← add-one) (omega arith)

  -- where the moves left stay the same, nothing moves
  still : (t k : ℕ) → from ≤ t → t + k ≤ T → left t ≤ left (t + k) → (i d : ℕ) → i < net.links → d ≤ k
      → (U net c i (t + d) ≡ U net c i t) × (V net c i (t + d) ≡ V net c i t)
  unfolding moves
  still t k a l q i zero n b = rw add-zero (refl, refl)
  still t k a l q i (suc d) n b =
      let r = still t k a l q i d n (omega arith) in
      let z : moves (t + d) ≡ 0 = omega (arith, left_after t k a l, total_at k (λ s. moves (t + s)) d (omega arith)) in
      let y = quiet net sound c T booked m lawful (t + d) (omega arith) z i n in
      rw (add-suc, ← add-one) (y.0 ∙ r.0, y.1 ∙ r.1)

  module _ (W Z : ℕ) (longest : LongestSteps net W) (opens : Opens net m from T Z) where
    w_least : 1 ≤ W
    w_least = let i = longest.met.0 in omega (arith, longest.free i longest.met.1, (sound.link i longest.met.1).free_least)

    -- in W + Z - 1 steps running some vehicle moves, if there is one
    block : (t : ℕ) → from ≤ t → t + (W + Z - 1) ≤ T → (left (t + (W + Z - 1)) < left t) ⊎ (left t ≡ 0)
    unfolding left waits drives
    block t a l = go (cases_lt (left (t + (W + Z - 1))) (left t))
      where
        later : Opens net m t T Z
        later = record { least = opens.least; first = λ s b. opens.first s (omega arith); second = λ s b. opens.second s (omega arith) }

        u_still : left t ≤ left (t + (W + Z - 1)) → (i s : ℕ) → i < net.links → t ≤ s → s ≤ t + (W + Z - 1) → U net c i s ≡ U net c i t
        u_still q i s n x y = let e : t + (s - t) ≡ s = omega arith in
            subst (λ u. U net c i u ≡ U net c i t) e (still t (W + Z - 1) a l q i (s - t) n (omega arith)).0

        v_still : left t ≤ left (t + (W + Z - 1)) → (i s : ℕ) → i < net.links → t ≤ s → s ≤ t + (W + Z - 1) → V net c i s ≡ V net c i t
        v_still q i s n x y = let e : t + (s - t) ≡ s = omega arith in
            subst (λ u. V net c i u ≡ V net c i t) e (still t (W + Z - 1) a l q i (s - t) n (omega arith)).1

        gone : left t ≤ left (t + (W + Z - 1)) → left t ≡ 0
        gone q =
            let x = total_none net.links (λ j. sum_by (λ x. suc (togo net h j x)) (waiting net c (booked from (net.link j).from) j t)) (λ j n.
            let z : waiting net c (booked from (net.link j).from) j t ≡ [] =
            nil_from_length _ (subst (λ (b : List ℕ). length (waiting net c b j t) ≡ 0) (same (t + W - 1) (net.link j).from (omega (arith, w_least)) (omega (arith, opens.least, w_least)))
            (no_wait net sound c T booked m lawful W Z t longest w_least later l (u_still q) (v_still q) j n)) in
            ap (sum_by (λ x. suc (togo net h j x))) z) in
            let y = total_none net.links (λ i. sum_by (λ v. togo net h i v.exit) (on net c i t)) (λ i n.
            let z : on net c i t ≡ [] = nil_from_length _ (simp length-drop
            (omega (arith, no_vehicle net sound c T booked m lawful W Z t longest w_least later l (u_still q) (v_still q) i n))) in
            ap (sum_by (λ v. togo net h i v.exit)) z) in
            omega arith

        go : (left (t + (W + Z - 1)) < left t) ⊎ (left t ≤ left (t + (W + Z - 1))) → (left (t + (W + Z - 1)) < left t) ⊎ (left t ≡ 0)
        go (inl q) = inl q
        go (inr q) = inr (gone q)

    clears : (n t : ℕ) → from ≤ t → left t ≤ n → t + n * (W + Z - 1) ≤ T → left (t + n * (W + Z - 1)) ≡ 0
    clears zero t a b l = let e : t + zero * (W + Z - 1) ≡ t = omega arith in rw e (omega arith)
    clears (suc n) t a b l = go (block t a (omega arith)) (λ q. clears n (t + (W + Z - 1)) (omega arith) (omega arith) (omega arith))
      where
        go : (left (t + (W + Z - 1)) < left t) ⊎ (left t ≡ 0)
            → (left (t + (W + Z - 1)) < left t → left (t + (W + Z - 1) + n * (W + Z - 1)) ≡ 0)
            → left (t + suc n * (W + Z - 1)) ≡ 0
        go (inl q) rec = let e : t + suc n * (W + Z - 1) ≡ t + (W + Z - 1) + n * (W + Z - 1) = omega arith in rw e (rec q)
        go (inr q) rec = omega (arith, left_after t (suc n * (W + Z - 1)) a l)

total_times : (n k : ℕ) (f : ℕ → ℕ) → total n (λ i. f i * k) ≡ total n f * k
total_times zero k f = omega arith
total_times (suc n) k f = omega (arith, total_times n k f)

module _ (net : Net) (sound : Sound net) (c : Curves) (T : ℕ) (booked : ℕ → ℕ → List ℕ) (m : ℕ → Meaning) (lawful : Timeline net c T booked m)
    (h : ℕ) (most : (e x n : ℕ) → Served net e x n → n ≤ h) where
  wait_weights : (j t : ℕ) → j < net.links → t ≤ T → (u : ℕ) → AllByRecursion (λ x. suc (togo net h j x) ≤ h + 1) (drop u (booked t (net.link j).from))
  wait_weights j t k l u = All-drop _ u _ (All-weaker (Bound net h j) _ (λ x b. omega (arith, togo_walk net x h b.1 b.2, b.2)) _
      (wait_bound net sound c T booked m lawful h most j t k l))

  drive_weights : (i t : ℕ) → i < net.links → t ≤ T → AllByRecursion (λ (v : Vehicle). (1 ≤ togo net h i v.exit) × (togo net h i v.exit ≤ h + 1)) (on net c i t)
  drive_weights i t k l = All-drop _ (V net c i t) (c.came i t) (All-weaker (λ (v : Vehicle). Bound net h i v.exit) _
      (λ v b. (omega (arith, togo_on net h i v.exit b), omega (arith, togo_walk net v.exit h b.1 b.2, b.2))) _
      (came_bound net sound c T booked m lawful h most i t k l))

  pub clearing : (from : ℕ) → ((s e : ℕ) → from ≤ s → s ≤ T → booked s e ≡ booked from e)
      → (W Z : ℕ) → LongestSteps net W → Opens net m from T Z
      → from + in_run net c (booked from) from * (h + 1) * (W + Z - 1) ≤ T
      → Empty net c (booked T) T
  unfolding left waits drives
  clearing from same W Z longest opens l = record { none_waits = none_waits; none_drives = none_drives }
    where
      L : ℕ → ℕ
      L = left net sound c T booked m lawful h most from same

      N : ℕ
      N = in_run net c (booked from) from

      first : L from ≤ N * (h + 1)
      first =
          let a = total_le net.links (λ j. sum_by (λ x. suc (togo net h j x)) (waiting net c (booked from (net.link j).from) j from))
          (λ j. length (waiting net c (booked from (net.link j).from) j from) * (h + 1))
          (λ j k. sum_by_le (λ x. suc (togo net h j x)) (h + 1) _ (wait_weights j from k (omega arith) (U net c j from))) in
          let b = total_le net.links (λ i. sum_by (λ v. togo net h i v.exit) (on net c i from)) (λ i. length (on net c i from) * (h + 1))
          (λ i k. sum_by_le (λ (v : Vehicle). togo net h i v.exit) (h + 1) _ (All-weaker _ _ (λ v z. z.1) _ (drive_weights i from k (omega arith)))) in
          omega (
            arith,
            a,
            b,
            total_times net.links (h + 1) (λ j. length (waiting net c (booked from (net.link j).from) j from)),
            total_times net.links (h + 1) (λ i. length (on net c i from)),
          )

      last : L T ≡ 0
      last = let e : from + N * (h + 1) * (W + Z - 1) + (T - (from + N * (h + 1) * (W + Z - 1))) ≡ T = omega arith in
          let z = clears net sound c T booked m lawful h most from same W Z longest opens (N * (h + 1)) from (omega arith) first l in
          let y = left_after net sound c T booked m lawful h most from same (from + N * (h + 1) * (W + Z - 1)) (T - (from + N * (h + 1) * (W + Z - 1))) (omega arith) (omega arith) in
          let x : L (from + N * (h + 1) * (W + Z - 1) + (T - (from + N * (h + 1) * (W + Z - 1)))) ≡ 0 = omega arith in
          subst (λ t. L t ≡ 0) e x

      none_waits : (j : ℕ) → j < net.links → waiting net c (booked T (net.link j).from) j T ≡ []
      none_waits j k = let q : List ℕ = waiting net c (booked from (net.link j).from) j T in
          ap (λ (b : List ℕ). waiting net c b j T) (same T (net.link j).from (omega arith) (omega arith))
          ∙ nil_from_length q (omega (
            arith,
            last,
            length_le_sum (λ x. suc (togo net h j x)) q (all_suc q),
            total_at net.links (λ j. sum_by (λ x. suc (togo net h j x)) (waiting net c (booked from (net.link j).from) j T)) j k,
          ))
        where
          all_suc : (xs : List ℕ) → AllByRecursion (λ x. 1 ≤ suc (togo net h j x)) xs
          all_suc [] = tt
          all_suc (x ∷ xs) = (omega arith, all_suc xs)

      none_drives : (i : ℕ) → i < net.links → on net c i T ≡ []
      none_drives i k = nil_from_length (on net c i T) (omega (
        arith,
        last,
        length_le_sum (λ (v : Vehicle). togo net h i v.exit) (on net c i T) (All-weaker _ _ (λ v z. z.0) _ (drive_weights i T k (omega arith))),
        total_at net.links (λ i. sum_by (λ v. togo net h i v.exit) (on net c i T)) i k,
      ))
