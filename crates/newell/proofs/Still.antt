-- Where nothing moves for long enough, nothing is in the run.
use Rattle.newell.specs.declared.records.Vehicle.{Vehicle}
use Rattle.std.proofs.Common.{◌≡◌, ℕ, zero, suc, ◌+◌, ◌-◌, ◌<◌, ◌≤◌, ◌⊎◌, List, map, length, take, sym, refl, subst, inl, inr, le_trans, arith, length-append, length-drop, length-take}
use Rattle.std.specs.List.{flat_map}
use Rattle.std.proofs.lemmas.List.Sums.{count_by-le-length, length-filter}
use Rattle.std.proofs.lemmas.Bool.{cases_lt}
use Rattle.network.specs.Net.{Net, Sound, entering, leaving, LongestSteps}
use Rattle.merge.specs.Rules.{Meaning}
use Rattle.newell.specs.Plain.{Curves, U, V, S, R, on, leavers, towards, waiting, Passable}
use Rattle.newell.proofs.Timeline.{Timeline}
use Rattle.newell.specs.Promise.{Opens}
use Rattle.network.proofs.Places.{In, entered, left_from, End, exits, passes, first_leg, second_leg, branches, end}
use Rattle.newell.proofs.Bounds.{proper, came_on, v_le_u}

few_kept : (net : Net) (i j : ℕ) (vs : List Vehicle) → length (towards net i j vs) ≤ length vs
few_kept net i j vs = simp length-filter (count_by-le-length _ vs)

module _ (net : Net) (sound : Sound net) (c : Curves) (T : ℕ) (booked : ℕ → ℕ → List ℕ) (m : ℕ → Meaning) (lawful : Timeline net c T booked m)
    (W Z t : ℕ) (longest : LongestSteps net W) (w_least : 1 ≤ W) (opens : Opens net m t T Z) (fits : t + (W + Z - 1) ≤ T)
    (still-U : (i s : ℕ) → i < net.links → t ≤ s → s ≤ t + (W + Z - 1) → U net c i s ≡ U net c i t)
    (still-V : (i s : ℕ) → i < net.links → t ≤ s → s ≤ t + (W + Z - 1) → V net c i s ≡ V net c i t) where
  -- in a late step all on a link may leave it, and an empty link takes some
  ready : (i s : ℕ) → i < net.links → t + W ≤ s + 1 → s < t + (W + Z - 1) → V net c i t < U net c i t → 1 ≤ S net c i s
  ready i s h a b q =
      let f = longest.free i h in
      let u = still-U i (s + 1 - (net.link i).free) h (omega arith) (omega (arith, (sound.link i h).free_least)) in
      let v = still-V i s h (omega arith) (omega arith) in
      omega (arith, (sound.link i h).capacity_least)

  room : (j s : ℕ) → j < net.links → t + W ≤ s + 1 → s < t + (W + Z - 1) → U net c j t ≡ V net c j t → 1 ≤ R net c j s
  room j s h a b q =
      let f = longest.wave j h in
      let v = still-V j (s + 1 - (net.link j).wave) h (omega arith) (omega (arith, (sound.link j h).wave_least)) in
      let u = still-U j s h (omega arith) (omega arith) in
      omega (arith, (sound.link j h).capacity_least, (sound.link j h).storage_least)

  few : (i j s : ℕ) → length (towards net i j (take 1 (on net c i s))) ≤ 1
  few i j s = le_trans (few_kept net i j (take 1 (on net c i s))) (simp length-take (omega arith))

  -- a link that is not empty lets a vehicle go, if the links beyond its end are empty
  stuck : (i : ℕ) → i < net.links → ((j : ℕ) → In j (leaving net (net.link i).to) → U net c j t ≡ V net c j t) → V net c i t < U net c i t → End net i → ⊥
  stuck i h beyond q (exits e l) =
      let s : ℕ = t + W - 1 in let a : s < t + (W + Z - 1) = omega (arith, opens.least) in
      let law = lawful.law s (omega arith) in
      omega (arith, law.exit _ i e l, ready i s h (omega arith) a q, still-V i s h (omega arith) (omega arith), still-V i (s + 1) h (omega arith) (omega arith))
  stuck i h beyond q (passes j e l) =
      let s : ℕ = t + W - 1 in let a : s < t + (W + Z - 1) = omega (arith, opens.least) in
      let law = lawful.law s (omega arith) in let n : In j (leaving net (net.link i).to) = subst (In j) (sym l) (inl refl) in
      omega (
        arith,
        law.mainline _ i j e l,
        ready i s h (omega arith) a q,
        room j s (left_from net _ j n).0 (omega arith) a (beyond j n),
        still-V i s h (omega arith) (omega arith),
        still-V i (s + 1) h (omega arith) (omega arith),
      )
  stuck i h beyond q (first_leg i' j e l) =
      let o = opens.first (t + W - 1) (omega arith) (omega arith) (net.link i).to i i' j e l in
      let s : ℕ = o.0 in let a : s < t + (W + Z - 1) = omega (arith, opens.least) in
      let law = lawful.law s (omega arith) in let n : In j (leaving net (net.link i).to) = subst (In j) (sym l) (inl refl) in
      let h' : i' < net.links = (entered net (net.link i).to i' (subst (In i') (sym e) (inr (inl refl)))).0 in
      omega (
        arith,
        law.merge _ i i' j e l,
        (proper net sound c (m s) (lawful.keeps s (omega arith)) _ i i' j s (omega (arith, lawful.early)) e l).full,
        ready i s h (omega arith) a q,
        room j s (left_from net _ j n).0 (omega arith) a (beyond j n),
        still-V i s h (omega arith) (omega arith),
        still-V i (s + 1) h (omega arith) (omega arith),
        still-V i' s h' (omega arith) (omega arith),
        still-V i' (s + 1) h' (omega arith) (omega arith),
      )
  stuck i h beyond q (second_leg i' j e l) =
      let o = opens.second (t + W - 1) (omega arith) (omega arith) (net.link i).to i' i j e l in
      let s : ℕ = o.0 in let a : s < t + (W + Z - 1) = omega (arith, opens.least) in
      let law = lawful.law s (omega arith) in let n : In j (leaving net (net.link i).to) = subst (In j) (sym l) (inl refl) in
      let h' : i' < net.links = (entered net (net.link i).to i' (subst (In i') (sym e) (inl refl))).0 in
      omega (
        arith,
        law.merge _ i' i j e l,
        (proper net sound c (m s) (lawful.keeps s (omega arith)) _ i' i j s (omega (arith, lawful.early)) e l).full,
        ready i s h (omega arith) a q,
        room j s (left_from net _ j n).0 (omega arith) a (beyond j n),
        still-V i s h (omega arith) (omega arith),
        still-V i (s + 1) h (omega arith) (omega arith),
        still-V i' s h' (omega arith) (omega arith),
        still-V i' (s + 1) h' (omega arith) (omega arith),
      )
  stuck i h beyond q (branches j j' e l) =
      let s : ℕ = t + W - 1 in let a : s < t + (W + Z - 1) = omega (arith, opens.least) in
      let law = lawful.law s (omega arith) in
      let n : In j (leaving net (net.link i).to) = subst (In j) (sym l) (inl refl) in
      let n' : In j' (leaving net (net.link i).to) = subst (In j') (sym l) (inr (inl refl)) in
      let d = law.diverge _ i j j' e l in
      let one : Passable net c i j j' s 1 = record {
        sent = ready i s h (omega arith) a q;
        one = le_trans (few i j s) (room j s (left_from net _ j n).0 (omega arith) a (beyond j n));
        other = le_trans (few i j' s) (room j' s (left_from net _ j' n').0 (omega arith) a (beyond j' n'));
      } in
      omega (arith, d.1, d.2.most 1 one, still-V i s h (omega arith) (omega arith), still-V i (s + 1) h (omega arith) (omega arith))

  -- the links are empty, those that end at the highest nodes first
  empty : (k i : ℕ) → i < net.links → net.nodes < (net.link i).to + k → U net c i t ≡ V net c i t
  empty zero i h q = absurd (omega (arith, (sound.link i h).to_node))
  empty (suc k) i h q = go (cases_lt (V net c i t) (U net c i t)) (λ j n. let r = left_from net (net.link i).to j n in empty k j r.0 (omega (arith, (sound.link j r.0).upward)))
    where
      go : (V net c i t < U net c i t) ⊎ (U net c i t ≤ V net c i t) → ((j : ℕ) → In j (leaving net (net.link i).to) → U net c j t ≡ V net c j t) → U net c i t ≡ V net c i t
      go (inl a) beyond = absurd (stuck i h beyond a (end net sound i h))
      go (inr a) beyond = omega (arith, v_le_u net sound c T booked m lawful i t h (omega arith))

  pub no_vehicle : (i : ℕ) → i < net.links → U net c i t ≡ V net c i t
  no_vehicle i h = empty (net.nodes + 1) i h (omega (arith, (sound.link i h).upward))

  pub no_wait : (j : ℕ) → j < net.links → length (waiting net c (booked (t + W - 1) (net.link j).from) j t) ≡ 0
  no_wait j h =
      let s : ℕ = t + W - 1 in let a : s < t + (W + Z - 1) = omega (arith, opens.least) in
      let r = room j s h (omega arith) a (no_vehicle j h) in
      let k = came_on net sound c (booked s) (m s) s (lawful.law s (omega arith)) (lawful.keeps s (omega arith)) (omega (arith, lawful.early)) (λ e. lawful.served s e (omega arith)) j h in
      let w : List ℕ = waiting net c (booked s (net.link j).from) j s in
      simp length-drop (omega (
        arith,
        k,
        length-append (take (R net c j s) w) (flat_map (λ i. map (λ v. v.exit) (towards net i j (leavers net c i s))) (entering net (net.link j).from)),
        length-take (R net c j s) w,
        length-drop (U net c j s) (booked s (net.link j).from),
        still-U j s h (omega arith) (omega arith),
        still-U j (s + 1) h (omega arith) (omega arith),
      ))
