-- The promise, at each moment of a run.
use Rattle.newell.specs.declared.records.Vehicle.{Vehicle}
use Rattle.newell.specs.declared.records.StepRow.{StepRow}
use Rattle.std.proofs.Common.{◌≡◌, ℕ, zero, suc, ◌+◌, ◌-◌, ◌*◌, ◌<◌, ◌≤◌, Bool, true, false, cond, ◌&&◌, eqb, leb, List, [], ◌∷◌, ◌++◌, length, get_or, replicate, Some, None, sum_by, sym, refl, ap, ◌∙◌, subst, ap₂, inl, arith, eq-eqb, ne_eqb, le-leb}
use mathlib.Core.Path.{fun_ext}
use Rattle.std.proofs.lemmas.List.Sums.{sum_by-cons, sum_by-append}
use Rattle.std.proofs.ByRecursion.{All-from_get_or}
use Rattle.std.proofs.lemmas.Bool.{cond-true, cond-false}
use Rattle.network.specs.Net.{Net, Sound, Walk, there, along, leaving, Entrance, Exit, Served}
use Rattle.newell.specs.Plain.{Curves, U, V, leavers}
use Rattle.newell.proofs.Timeline.{Timeline}
use Rattle.newell.specs.History.{History, book, step, ask_link, ask_entrance, ask_exit, told, refused, clock, booked, booked_for, gone_by, blank, handed, final, travelled, travel, Follows}
use Rattle.newell.specs.Promise.{named, in_run, Unbooked, Conserved, Kept, Clears, Travels, AtEachMoment}
use Rattle.network.proofs.Places.{In, only, leaves, left_from, entered}
use Rattle.newell.proofs.Bounds.{v_le_u, v_mono, storage, capacity_in, capacity_out, free_over, since}
use Rattle.newell.proofs.Totals.{total, total_two, total_none, total_one}
use Rattle.newell.proofs.Weights.{next_leaves, waits, drives}
use Rattle.newell.proofs.Order.{leaver_count, leaver_at, is_in_order}
use Rattle.newell.proofs.Account.{ever, for, conserved}
use Rattle.newell.proofs.Clearing.{clearing}
use Rattle.newell.proofs.Timeline.{booked_late, passed, stepped, timeline}

-- a walk has no more links than there are nodes
walk_bound : (net : Net) (sound : Sound net) (x : ℕ) {i n : ℕ} → Walk net x i n → i < net.links → n + (net.link i).from ≤ net.nodes
walk_bound net sound x (there {i = i} e l) k = let s = sound.link i k in omega arith
walk_bound net sound x (along {i = i} {j = j} {n = n} e r) k = let s = sound.link i k in let f = left_from net _ j (next_leaves net sound i x j e) in
    omega (arith, walk_bound net sound x r f.0)

pub served_bound : (net : Net) (sound : Sound net) (e x n : ℕ) → Served net e x n → n ≤ net.nodes
served_bound net sound e x n s = let f = left_from net e s.0 (subst (In s.0) (sym s.1.1) (inl refl)) in
    omega (arith, walk_bound net sound x s.2 f.0)

-- those booked for an exit, by their entrances and by the bookings
sum_same : (x y n : ℕ) → sum_by (named x) (replicate n y) ≡ cond (eqb y x) n 0
sum_same x y zero = go (eqb y x)
  where
    go : (b : Bool) → ◌≡◌ {A = ℕ} 0 (cond b 0 0)
    go true = refl
    go false = refl
sum_same x y (suc n) = sum_by-cons (named x) y (replicate n y) ∙ ap (λ k. cond (eqb y x) 1 0 + k) (sum_same x y n) ∙ go (eqb y x)
  where
    go : (b : Bool) → cond {A = ℕ} b 1 0 + cond {A = ℕ} b n 0 ≡ cond b (suc n) 0
    go true = omega arith
    go false = refl

booked_sum : (net : Net) (c : Curves) (h : History) → Follows net c h → (x t : ℕ) → clock h ≤ t
    → total net.links (λ j. sum_by (named x) (booked h t (net.link j).from)) ≡ booked_for h x
booked_sum net c [] f x t l = total_none net.links _ (λ j k. refl)
booked_sum net c (book e y n (told u) ∷ h) f x t l =
    total_two net.links _ (λ j. sum_by (named x) (booked h t (net.link j).from)) (λ j. cond (eqb e (net.link j).from) (cond (eqb y x) n 0) 0)
    (λ j k. sum_by-append (named x) (booked h t (net.link j).from) _ ∙ ap (λ s. sum_by (named x) (booked h t (net.link j).from) + s) (part (net.link j).from))
    ∙ ap₂ ◌+◌ (booked_sum net c h f.0 x t l) (once (passed f.1).0)
  where
    part : (k : ℕ) → sum_by (named x) (cond (leb (clock h) t && eqb e k) (replicate n y) []) ≡ cond (eqb e k) (cond (eqb y x) n 0) 0
    part k = rw (le-leb (clock h) t l) (go (eqb e k))
      where
        go : (b : Bool) → sum_by (named x) (cond b (replicate n y) []) ≡ cond b (cond (eqb y x) n 0) 0
        go true = sum_same x y n
        go false = refl

    once : ((j : ℕ) × Entrance net e j) → total net.links (λ j. cond (eqb e (net.link j).from) (cond (eqb y x) n 0) 0) ≡ cond (eqb y x) n 0
    once en = let j = en.0 in let f = left_from net e j (subst (In j) (sym en.1.1) (inl refl)) in
        total_one net.links (λ j. cond (eqb e (net.link j).from) (cond (eqb y x) n 0) 0) j f.0
        (λ i k d. cond-false _ _ 0 (ne_eqb e (net.link i).from (λ q. d (only i j (subst (In i) (ap (leaving net) (sym q) ∙ en.1.1) (leaves net i k))))))
        ∙ cond-true _ _ 0 (eq-eqb e (net.link j).from (sym f.1))
booked_sum net c (book e y n (refused k) ∷ h) f x t l = booked_sum net c h f.0 x t l
booked_sum net c (step m rows (told u) m' rows' ∷ h) f x t l = booked_sum net c h f.0 x t (omega arith)
booked_sum net c (step m rows (refused k) m' rows' ∷ h) f x t l = booked_sum net c h f.0 x t l
booked_sum net c (ask_link i r ∷ h) f x t l = booked_sum net c h f.0 x t l
booked_sum net c (ask_entrance e r ∷ h) f x t l = booked_sum net c h f.0 x t l
booked_sum net c (ask_exit y r ∷ h) f x t l = booked_sum net c h f.0 x t l

-- those gone are those that left
pub gone_left : (net : Net) (sound : Sound net) (c : Curves) (h : History) → Follows net c h → (i : ℕ) → i < net.links → gone_by h i ≡ V net c i (clock h)
gone_left net sound c [] f i k = sym (f.left i k)
gone_left net sound c (book e x n r ∷ h) f i k = gone_left net sound c h f.0 i k
gone_left net sound c (step m rows (told u) m' rows' ∷ h) f i k =
    let row : (get_or rows' i blank).left ≡ V net c i (clock h + 1) - V net c i (clock h) = ap (λ (z : StepRow). z.left) ((stepped net c h m rows u m' rows' f.1).1.filled i blank k) in
    let rises = v_mono net sound c (clock h + 1) (booked h) (handed (step m rows (told u) m' rows' ∷ h)) (timeline net c (step m rows (told u) m' rows' ∷ h) f) i (clock h) (clock h + 1) k (omega arith) (omega arith) in
    omega (arith, gone_left net sound c h f.0 i k, row, rises)
gone_left net sound c (step m rows (refused q) m' rows' ∷ h) f i k = gone_left net sound c h f.0 i k
gone_left net sound c (ask_link n r ∷ h) f i k = gone_left net sound c h f.0 i k
gone_left net sound c (ask_entrance e r ∷ h) f i k = gone_left net sound c h f.0 i k
gone_left net sound c (ask_exit x r ∷ h) f i k = gone_left net sound c h f.0 i k

pub is_conserved : (net : Net) → Sound net → (h : History) (c : Curves) → Follows net c h → (x g : ℕ) → Exit net x g → Conserved net c h x g
unfolding waits drives ever
is_conserved net sound h c f x g ex =
    let gone = gone_left net sound c h f g (entered net x g (subst (In g) (sym ex.0) (inl refl))).0 in
    record {
      sum = ap (λ n. waits net c (for x) (booked h (clock h)) (clock h) + drives net c (for x) (clock h) + n) gone
          ∙ sym (conserved net sound c (clock h) (booked h) (handed h) (timeline net c h f) net.nodes (served_bound net sound) x g ex (clock h) (omega arith))
          ∙ booked_sum net c h f x (clock h) (omega arith);
      gone = gone;
    }

-- the last of a list by its place
final_at : {X : Type 0} (xs : List X) (n : ℕ) (d : X) → length xs ≡ suc n → final xs ≡ Some (get_or xs n d)
final_at [] n d e = absurd (omega arith)
final_at (x ∷ []) n d e = let z : n ≡ 0 = omega arith in rw z
final_at (x ∷ y ∷ ys) zero d e = absurd (omega arith)
final_at (x ∷ y ∷ ys) (suc n) d e = final_at (y ∷ ys) n d (omega arith)

module _ (net : Net) (sound : Sound net) (h : History) (c : Curves) (f : Follows net c h) where
  lawful : Timeline net c (clock h) (booked h) (handed h)
  lawful = timeline net c h f

  pub is_kept : (i : ℕ) → i < net.links → Kept net c h i
  is_kept i k = record {
    storage = λ t l. storage net sound c (clock h) (booked h) (handed h) lawful i t k l;
    capacity_on = λ t l. capacity_in net sound c (clock h) (booked h) (handed h) lawful i t k l;
    capacity_off = λ t l. capacity_out net sound c (clock h) (booked h) (handed h) lawful i t k l;
    free_over = λ t l. All-from_get_or _ (leavers net c i t) nobody (λ q b. rw (leaver_at net sound h c f i t q nobody k l b)
        (free_over net sound c (clock h) (booked h) (handed h) lawful i t (V net c i t + q) nobody k l (omega (arith, leaver_count net sound h c f i t k l))));
  }
    where
      nobody : Vehicle
      nobody = record { exit = 0; since = 0 }

  pub is_travel : (i t : ℕ) → i < net.links → t < clock h → Travels net c h i t
  is_travel i t k l = record { absent = λ e. absent (leavers net c i t) (omega (arith, leaver_count net sound h c f i t k l)); present = present }
    where
      nobody : Vehicle
      nobody = record { exit = 0; since = 0 }

      absent : (vs : List Vehicle) → length vs ≡ 0 → travelled net c t (final vs) ≡ None
      absent [] e = refl
      absent (v ∷ vs) e = absurd (omega arith)

      present : V net c i t < V net c i (t + 1)
          → (z : ℕ) × (travel net c i t ≡ Some (t + 1 - z)) × (V net c i (t + 1) ≤ U net c i z) × ((s : ℕ) → s < z → U net c i s < V net c i (t + 1))
      present b =
          let n = leaver_count net sound h c f i t k l in
          let q : ℕ = length (leavers net c i t) - 1 in
          let e : V net c i t + q ≡ V net c i (t + 1) - 1 = omega arith in
          let g = final_at (leavers net c i t) q nobody (omega arith) ∙ ap Some (leaver_at net sound h c f i t q nobody k l (omega arith)) in
          let z = since net sound c (clock h) (booked h) (handed h) lawful i (t + 1) (V net c i t + q) nobody k l' (omega (arith, v_le_u net sound c (clock h) (booked h) (handed h) lawful i (t + 1) k l')) in
          (_, ap (travelled net c t) g, omega (arith, z.reached), λ s w. omega (arith, z.before s w))
        where
          l' : t + 1 ≤ clock h
          l' = omega arith

-- what an unbooked stretch leaves as it was
later_booked : (later h₀ : History) → Unbooked later → (t e : ℕ) → booked (later ++ h₀) t e ≡ booked h₀ t e
later_booked [] h₀ u t e = refl
later_booked (book e' x n (told v) ∷ l) h₀ u t e = absurd u
later_booked (book e' x n (refused k) ∷ l) h₀ u t e = later_booked l h₀ u t e
later_booked (step m rows r m' rows' ∷ l) h₀ u t e = later_booked l h₀ u t e
later_booked (ask_link i r ∷ l) h₀ u t e = later_booked l h₀ u t e
later_booked (ask_entrance e' r ∷ l) h₀ u t e = later_booked l h₀ u t e
later_booked (ask_exit x r ∷ l) h₀ u t e = later_booked l h₀ u t e

pub is_cleared : (net : Net) → Sound net → (h : History) (c : Curves) → Follows net c h → Clears net c h
is_cleared net sound h c f later h₀ q unbooked H W Z most longest opens l =
    clearing net sound c (clock h) (booked h) (handed h) (timeline net c h f) H most.bound (clock h₀)
    (λ s e a b. same s e ∙ booked_late h₀ s (clock h₀) e a (omega arith) ∙ sym (same (clock h₀) e))
    W Z longest opens (subst (λ (b : ℕ → List ℕ). clock h₀ + in_run net c b (clock h₀) * (H + 1) * (W + Z - 1) ≤ clock h) (sym (fun_ext (same (clock h₀)))) l)
  where
    same : (t e : ℕ) → booked h t e ≡ booked h₀ t e
    same t e = ap (λ (k : History). booked k t e) q ∙ later_booked later h₀ unbooked t e

pub at_each_moment : AtEachMoment
at_each_moment net sound h c f = record {
  conserved = is_conserved net sound h c f;
  kept = is_kept net sound h c f;
  in_order = is_in_order net sound h c f;
  clears = is_cleared net sound h c f;
  travels = is_travel net sound h c f;
}
