-- What was booked, waits, is on links or was spent: the account of a weight; and that of each exit.
use Rattle.newell.specs.declared.records.Vehicle.{Vehicle}
use Rattle.std.proofs.Common.{◌≡◌, ℕ, zero, suc, ◌+◌, ◌-◌, ◌<◌, ◌≤◌, cond, eqb, List, [], ◌∷◌, ◌++◌, length, take, drop, Some, None, sum_by, Option, sym, refl, ap, ◌∙◌, subst, inl, add-one, arith, length-append, length-drop, length-take, eq-eqb, ne_eqb}
use Rattle.std.specs.List.{AllByRecursion}
use Rattle.std.proofs.lemmas.List.Sums.{sum_by-append}
use Rattle.std.proofs.lemmas.List.{drop-append-le, append-nil}
use Rattle.network.specs.Net.{Net, Sound, Walk, there, along, next, onward, entering, leaving, Exit, Served}
use Rattle.merge.specs.Rules.{Meaning}
use Rattle.newell.specs.Plain.{Curves, U, V, R, on, leavers, waiting, arrivals}
use Rattle.newell.proofs.Timeline.{Timeline}
use Rattle.network.proofs.Places.{In, only, enters, entered, Start, begins, follows, joins, first_branch, second_branch, start}
use Rattle.newell.proofs.Bounds.{none_booked, came_on, out, u_mono}
use Rattle.newell.proofs.Totals.{total, total_ext, total_two, total_none, total_one, sum_ext, sum_none}
use Rattle.newell.proofs.Weights.{onto, Bound, ends_walk, came_bound, all_part, waits, drives, admitted, released, step_law}
use Rattle.newell.proofs.Clearing.{sum_ones}

-- all that were booked by a clock, each with its weight
unfoldable pub ever : Net → (ℕ → ℕ → ℕ) → (ℕ → List ℕ) → ℕ
ever net ω b = total net.links (λ j. sum_by (ω j) (b (net.link j).from))

-- 1 for a vehicle for the exit X, and 0 for any other
abbrev pub for : ℕ → ℕ → ℕ → ℕ
for X j x = cond (eqb x X) 1 0

abbrev pub last : Option ℕ → ℕ → ℕ
last None n = n
last (Some j) n = 0

module _ (net : Net) (sound : Sound net) (c : Curves) (T : ℕ) (booked : ℕ → ℕ → List ℕ) (m : ℕ → Meaning) (lawful : Timeline net c T booked m) where
  -- at an entrance no more come on than were booked
  within_next : (j t : ℕ) → j < net.links → entering net (net.link j).from ≡ [] → t < T
      → U net c j t ≤ length (booked t (net.link j).from) → U net c j (t + 1) ≤ length (booked t (net.link j).from)
  within_next j t k e l r =
      let a = came_on net sound c (booked t) (m t) t (lawful.law t l) (lawful.keeps t l) (omega (arith, lawful.early)) (λ e. lawful.served t e (omega arith)) j k in
      let w : List ℕ = waiting net c (booked t (net.link j).from) j t in
      let b : length (arrivals net c (booked t (net.link j).from) j t) ≡ length (take (R net c j t) w) = rw e (simp length-append (omega arith)) in
      omega (arith, length-take (R net c j t) w, length-drop (U net c j t) (booked t (net.link j).from))

  pub within : (j t : ℕ) → j < net.links → entering net (net.link j).from ≡ [] → t ≤ T → U net c j t ≤ length (booked t (net.link j).from)
  within j zero k e l = omega (arith, ap length (lawful.new_came j k))
  within j (suc t) k e l = let n = within_next j t k e l (within j t k e (omega arith)) in
      let g = lawful.grows t (net.link j).from l in
      rw (← add-one) (omega (arith, ap length g.1, length-append (booked t (net.link j).from) g.0))

  -- bookings add to those that wait
  booking : (f : ℕ → ℕ) (j t : ℕ) → j < net.links → (l : t < T)
      → sum_by f (waiting net c (booked (t + 1) (net.link j).from) j (t + 1))
      ≡ sum_by f (waiting net c (booked t (net.link j).from) j (t + 1)) + sum_by f (lawful.grows t (net.link j).from l).0
  booking f j t k l = go (start net sound j k)
    where
      B : List ℕ
      B = booked t (net.link j).from

      more : List ℕ
      more = (lawful.grows t (net.link j).from l).0

      grown : booked (t + 1) (net.link j).from ≡ B ++ more
      grown = (lawful.grows t (net.link j).from l).1

      Goal : Type 0
      Goal = sum_by f (waiting net c (booked (t + 1) (net.link j).from) j (t + 1)) ≡ sum_by f (waiting net c B j (t + 1)) + sum_by f more

      no_more : (xs ys : List ℕ) → xs ++ ys ≡ [] → ys ≡ []
      no_more [] ys e = e
      no_more (x ∷ xs) ys e = let z : [] ≡ ys = cc in sym z

      nil : booked (t + 1) (net.link j).from ≡ [] → Goal
      nil e = let z : more ≡ [] = no_more B more (sym grown ∙ e) in
          let y : booked (t + 1) (net.link j).from ≡ B = grown ∙ ap {B = List ℕ} (λ ys. B ++ ys) z ∙ append-nil B in
          rw (y, z) (omega arith)

      served : AllByRecursion (λ x. (n : ℕ) × Served net (net.link j).from x n) (booked (t + 1) (net.link j).from)
      served = lawful.served (t + 1) (net.link j).from (omega arith)

      go : Start net j → Goal
      go (begins e _) = let n = within_next j t k e l (within j t k e (omega arith)) in
          rw (grown, drop-append-le (U net c j (t + 1)) B more n) (sum_by-append f (drop (U net c j (t + 1)) B) more)
      go (follows i e _) = nil (none_booked net _ i [] _ e served)
      go (joins i i' e _) = nil (none_booked net _ i (i' ∷ []) _ e served)
      go (first_branch i j' e _) = nil (none_booked net _ i [] _ e served)
      go (second_branch i j' e _) = nil (none_booked net _ i [] _ e served)

  pub account : (h : ℕ) (most : (e x n : ℕ) → Served net e x n → n ≤ h) (ω σ w sp : ℕ → ℕ → ℕ)
      → ((j x : ℕ) → Bound net h j x → ω j x ≡ σ j x + w j x)
      → ((i x : ℕ) → Bound net h i x → w i x ≡ sp i x + onto (next net i x) (λ j. w j x))
      → (t : ℕ) → t ≤ T
      → ever net ω (booked t) ≡ waits net c ω (booked t) t + drives net c w t + total t (λ s. admitted net c σ (booked s) s + released net c sp s)
  unfolding ever waits drives
  account h most ω σ w sp off onw zero l =
      let a = total_ext net.links (λ j. sum_by (ω j) (waiting net c (booked 0 (net.link j).from) j 0)) (λ j. sum_by (ω j) (booked 0 (net.link j).from))
      (λ j k. let e = ap length (lawful.new_came j k) in rw e) in
      let b = total_none net.links (λ i. sum_by (λ v. w i v.exit) (on net c i 0)) (λ i k. rw (lawful.new_left i k, lawful.new_came i k)) in
      omega arith
  account h most ω σ w sp off onw (suc t) l =
      let r = account h most ω σ w sp off onw t (omega arith) in
      let s = step_law net sound c T booked m lawful h most ω σ w sp off onw t l in
      let a = total_two net.links (λ j. sum_by (ω j) (waiting net c (booked (t + 1) (net.link j).from) j (t + 1)))
      (λ j. sum_by (ω j) (waiting net c (booked t (net.link j).from) j (t + 1))) (λ j. sum_by (ω j) (lawful.grows t (net.link j).from l).0)
      (λ j k. booking (ω j) j t k l) in
      let b = total_two net.links (λ j. sum_by (ω j) (booked (t + 1) (net.link j).from))
      (λ j. sum_by (ω j) (booked t (net.link j).from)) (λ j. sum_by (ω j) (lawful.grows t (net.link j).from l).0)
      (λ j k. ap (sum_by (ω j)) (lawful.grows t (net.link j).from l).1 ∙ sum_by-append (ω j) (booked t (net.link j).from) (lawful.grows t (net.link j).from l).0) in
      rw (← add-one) (omega arith)

  -- for the exit X, with its entering link g: those gone are those that left that link
  module _ (h : ℕ) (most : (e x n : ℕ) → Served net e x n → n ≤ h) (X g : ℕ) (ex : Exit net X g) where
    ends : g < net.links
    ends = (entered net X g (subst (In g) (sym ex.0) (inl refl))).0

    ends_at : (net.link g).to ≡ X
    ends_at = (entered net X g (subst (In g) (sym ex.0) (inl refl))).1

    other : (i : ℕ) → i < net.links → (i ≡ g → ⊥) → (net.link i).to ≡ X → ⊥
    other i k d e = d (only i g (subst (In i) (ap (entering net) e ∙ ex.0) (enters net i k)))

    at_exit : (x : ℕ) {i n : ℕ} → Walk net x i n → i ≡ g → last (next net i x) (for X i x) ≡ 1
    at_exit x (there {i = i} e l) q = rw (ends_walk net i x e l) (rw (eq-eqb x X (sym e ∙ ap (λ k. (net.link k).to) q ∙ ends_at)))
    at_exit x (along {i = i} {j = j} e r) q =
        let z : next net i x ≡ None = ap (λ ls. onward ls (net.route (net.link i).to x)) (ap (λ k. leaving net (net.link k).to) q ∙ ap (leaving net) ends_at ∙ ex.1) in
        let y : ◌≡◌ {A = ℕ} 0 1 = cc in absurd (omega arith)

    elsewhere : (x : ℕ) {i n : ℕ} → Walk net x i n → i < net.links → (i ≡ g → ⊥) → last (next net i x) (for X i x) ≡ 0
    elsewhere x (there {i = i} e l) k d = rw (ends_walk net i x e l) (rw (ne_eqb x X (λ q. other i k d (e ∙ q))))
    elsewhere x (along {i = i} {j = j} e r) k d = rw e

    released_is : (t : ℕ) → t < T → released net c (λ i x. last (next net i x) (for X i x)) t + V net c g t ≡ V net c g (t + 1)
    unfolding released
    released_is t l =
        let bound : (i : ℕ) → i < net.links → AllByRecursion (λ (v : Vehicle). Bound net h i v.exit) (leavers net c i t) = λ i k.
        all_part (λ (v : Vehicle). Bound net h i v.exit) (V net c i (t + 1) - V net c i t) (V net c i t) (c.came i t) (came_bound net sound c T booked m lawful h most i t k (omega arith)) in
        let a = total_one net.links (λ i. sum_by (λ v. last (next net i v.exit) (for X i v.exit)) (leavers net c i t)) g ends
        (λ i k d. sum_ext _ (λ v. 0) (λ (v : Vehicle). Bound net h i v.exit) (leavers net c i t) (λ v b. elsewhere v.exit b.1 k d) (bound i k) ∙ sum_none (leavers net c i t)) in
        let b = sum_ext (λ v. last (next net g v.exit) (for X g v.exit)) (λ v. 1) (λ (v : Vehicle). Bound net h g v.exit) (leavers net c g t) (λ v b. at_exit v.exit b.1 refl) (bound g ends)
        ∙ sum_ones (leavers net c g t) in
        let o = out net sound c T booked m lawful t g l ends in
        let u = u_mono net sound c T booked m lawful g (t + 1 - (net.link g).free) t ends (omega (arith, (sound.link g ends).free_least)) (omega arith) in
        omega (arith, length-take (V net c g (t + 1) - V net c g t) (on net c g t), length-drop (V net c g t) (c.came g t))

    admitted_none : (t : ℕ) → admitted net c (λ j x. 0) (booked t) t ≡ 0
    unfolding admitted
    admitted_none t = total_none net.links _ (λ j k. sum_none (take (R net c j t) (waiting net c (booked t (net.link j).from) j t)))

    gone_is : (t : ℕ) → t ≤ T → total t (λ s. admitted net c (λ j x. 0) (booked s) s + released net c (λ i x. last (next net i x) (for X i x)) s) ≡ V net c g t
    gone_is zero l = sym (lawful.new_left g ends)
    gone_is (suc t) l = let a = gone_is t (omega arith) in let b = released_is t l in let e : t + 1 ≡ suc t = omega arith in
        subst (λ u. total (suc t) (λ s. admitted net c (λ j x. 0) (booked s) s + released net c (λ i x. last (next net i x) (for X i x)) s) ≡ V net c g u) e (omega (arith, admitted_none t))

    last_or : (o : Option ℕ) (n : ℕ) → n ≡ last o n + onto o (λ j. n)
    last_or None n = omega arith
    last_or (Some j) n = omega arith

    pub conserved : (t : ℕ) → t ≤ T → ever net (for X) (booked t) ≡ waits net c (for X) (booked t) t + drives net c (for X) t + V net c g t
    conserved t l = account h most (for X) (λ j x. 0) (for X) (λ i x. last (next net i x) (for X i x)) (λ j x b. omega arith) (λ i x b. last_or (next net i x) (cond (eqb x X) 1 0)) t l
        ∙ ap (λ n. waits net c (for X) (booked t) t + drives net c (for X) t + n) (gone_is t l)
