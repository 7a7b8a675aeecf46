-- Weights of the vehicles in a run, and how a step changes their sum.
use Rattle.newell.specs.declared.records.Vehicle.{Vehicle}
use Rattle.std.proofs.Common.{◌≡◌, ℕ, zero, suc, ◌+◌, ◌-◌, ◌<◌, ◌≤◌, Bool, true, false, cond, eqb, ◌⊎◌, List, [], ◌∷◌, ◌++◌, map, length, take, drop, Some, None, sum_by, filter, Option, sym, refl, ap, ◌∙◌, subst, inl, inr, add-one, arith, length-append, length-take, eq-eqb, ne_eqb, eqb-true}
use Rattle.std.specs.List.{flat_map, AllByRecursion}
use Rattle.std.proofs.lemmas.List.Sums.{sum_by-append, sum_by-take-drop}
use Rattle.std.proofs.ByRecursion.{All-map, All-append, All-take, All-drop, All-weaker}
use Rattle.std.proofs.lemmas.List.{drop-drop, drop-append-le, drop_all}
use Rattle.std.proofs.Math.Seq.{drop-nil}
use Rattle.std.proofs.lemmas.Bool.{cond-true, cond-false, cases_lt, both_ways}
use Rattle.network.specs.Net.{Net, Sound, Walk, there, along, entering, leaving, onward, next, is, Served}
use Rattle.merge.specs.Rules.{Meaning}
use Rattle.newell.specs.Plain.{Curves, U, V, R, on, leavers, towards, waiting, arrivals}
use Rattle.newell.proofs.Timeline.{Timeline}
use Rattle.network.proofs.Places.{In, only, leaves, entered, left_from, Start, begins, follows, joins, first_branch, second_branch, start}
use Rattle.newell.proofs.Bounds.{none_booked, came_on, out, v_le_u, u_mono}
use Rattle.newell.proofs.Totals.{total, total_ext, total_none, total_swap, total_one, sum_places, sum_map, sum_joined, sum_kept, sum_ext, sum_two, sum_none, total_two, total_four, total_sum}

-- what a weight is worth on the link taken next
abbrev pub onto : Option ℕ → (ℕ → ℕ) → ℕ
onto None w = 0
onto (Some j) w = w j

-- a vehicle for the exit x on the link i is on a walk that ends there, of at most h links
abbrev pub Bound : Net → ℕ → ℕ → ℕ → Type 0
Bound net h i x = (n : ℕ) × Walk net x i n × (n ≤ h)

member : (j a b : ℕ) → (j ≡ a) ⊎ (j ≡ b) → In j (a ∷ b ∷ [])
member j a b (inl e) = inl e
member j a b (inr e) = inr (inl e)

cond_zero : (b : Bool) → cond {A = ℕ} b 0 0 ≡ 0
cond_zero true = refl
cond_zero false = refl

cond_sum : {X : Type 0} (b : Bool) (f : X → ℕ) (xs : List X) → cond b (sum_by f xs) 0 ≡ sum_by (λ x. cond b (f x) 0) xs
cond_sum true f xs = refl
cond_sum false f xs = sym (sum_none xs)

all_unit : {X : Type 0} (xs : List X) → AllByRecursion (λ x. Unit {0}) xs
all_unit [] = tt
all_unit (x ∷ xs) = (tt, all_unit xs)

-- the link that is taken next leaves the node where the link ends
pub next_leaves : (net : Net) (sound : Sound net) (i x j : ℕ) → next net i x ≡ Some j → In j (leaving net (net.link i).to)
next_leaves net sound i x j e = go (leaving net (net.link i).to) refl e
  where
    go : (ls : List ℕ) → leaving net (net.link i).to ≡ ls → onward ls (net.route (net.link i).to x) ≡ Some j → In j ls
    go [] q r = let z : ◌≡◌ {A = ℕ} 0 1 = cc in absurd (omega arith)
    go (k ∷ []) q r = inl (sym (let z : k ≡ j = cc in z))
    go (k ∷ k' ∷ ks) q r = let s = sound.route (net.link i).to x j r in subst (In j) (sym s.4 ∙ q) (member j s.1 s.2 s.5)

module _ (net : Net) (sound : Sound net) (w : ℕ → ℕ → ℕ) where
  once : (i x : ℕ) → total net.links (λ j. cond (eqb (net.link i).to (net.link j).from) (cond (is (next net i x) j) (w j x) 0) 0)
      ≡ onto (next net i x) (λ j. w j x)
  once i x = go (next net i x) (λ j e. next_leaves net sound i x j e)
    where
      go : (o : Option ℕ) → ((j : ℕ) → o ≡ Some j → In j (leaving net (net.link i).to))
          → total net.links (λ j. cond (eqb (net.link i).to (net.link j).from) (cond (is o j) (w j x) 0) 0) ≡ onto o (λ j. w j x)
      go None h = total_none net.links _ (λ i h. cond_zero _)
      go (Some k) h = let l = left_from net (net.link i).to k (h k refl) in
          total_one net.links _ k l.0 (λ j q d. ap (λ n. cond (eqb (net.link i).to (net.link j).from) n 0) (cond-false (eqb k j) _ _ (ne_eqb k j (λ e. d (sym e)))) ∙ cond_zero _)
          ∙ cond-true _ _ _ (eq-eqb _ _ (sym l.1)) ∙ cond-true _ _ _ (eq-eqb k k refl)

  -- over the links that a node lets out, each vehicle counts once, by the link that it takes
  pub each_once : (i : ℕ) (vs : List Vehicle)
      → total net.links (λ j. cond (eqb (net.link i).to (net.link j).from) (sum_by (λ v. cond (is (next net i v.exit) j) (w j v.exit) 0) vs) 0)
      ≡ sum_by (λ v. onto (next net i v.exit) (λ j. w j v.exit)) vs
  each_once i vs = total_ext net.links _ _ (λ j h. cond_sum (eqb (net.link i).to (net.link j).from) _ vs) ∙ total_sum net.links _ vs
      ∙ sum_ext _ _ (λ v. Unit {0}) vs (λ v u. once i v.exit) (all_unit vs)

-- the sum of those that come on, over all links
module _ (net : Net) (sound : Sound net) (c : Curves) (w : ℕ → ℕ → ℕ) (t : ℕ) where
  worth : ℕ → ℕ → ℕ
  worth i j = sum_by (λ v. cond (is (next net i v.exit) j) (w j v.exit) 0) (leavers net c i t)

  from_links : (j : ℕ) → sum_by (w j) (flat_map (λ i. map {B = ℕ} (λ v. v.exit) (towards net i j (leavers net c i t))) (entering net (net.link j).from))
      ≡ total net.links (λ i. cond (eqb (net.link i).to (net.link j).from) (worth i j) 0)
  unfolding worth
  from_links j = sum_joined (w j) _ (entering net (net.link j).from)
      ∙ sum_ext _ _ (λ v. Unit {0}) (entering net (net.link j).from)
      (λ i u. sum_map (w j) (λ v. v.exit) (towards net i j (leavers net c i t)) ∙ sum_kept (λ v. w j v.exit) (λ v. is (next net i v.exit) j) (leavers net c i t))
      (all_unit (entering net (net.link j).from))
      ∙ sum_places (λ i. eqb (net.link i).to (net.link j).from) (λ i. worth i j) net.links

  pub moved_on : total net.links (λ j. sum_by (w j) (flat_map (λ i. map {B = ℕ} (λ v. v.exit) (towards net i j (leavers net c i t))) (entering net (net.link j).from)))
      ≡ total net.links (λ i. sum_by (λ v. onto (next net i v.exit) (λ j. w j v.exit)) (leavers net c i t))
  unfolding worth
  moved_on = total_ext net.links _ _ (λ j h. from_links j)
      ∙ total_swap net.links net.links (λ j i. cond (eqb (net.link i).to (net.link j).from) (worth i j) 0)
      ∙ total_ext net.links _ _ (λ i h. each_once net sound w i (leavers net c i t))

drop_min : {X : Type 0} (r : ℕ) (xs : List X) → drop (length (take r xs)) xs ≡ drop r xs
drop_min r xs = go (cases_lt r (length xs))
  where
    go : (r < length xs) ⊎ (length xs ≤ r) → drop (length (take r xs)) xs ≡ drop r xs
    go (inl h) = let e : length (take r xs) ≡ r = simp length-take (omega arith) in rw e
    go (inr h) = let e : length (take r xs) ≡ length xs = simp length-take (omega arith) in rw (e, drop_all (length xs) xs (omega arith), drop_all r xs h)

-- how a step of a lawful timeline changes the sums of one link
module _ (net : Net) (sound : Sound net) (c : Curves) (T : ℕ) (booked : ℕ → ℕ → List ℕ) (m : ℕ → Meaning) (lawful : Timeline net c T booked m)
    (t : ℕ) (l : t < T) where
  -- those that wait after the step are those that waited, less the first
  pub later : (j : ℕ) → j < net.links
      → waiting net c (booked t (net.link j).from) j (t + 1) ≡ drop (R net c j t) (waiting net c (booked t (net.link j).from) j t)
  later j h = go (start net sound j h)
    where
      B : List ℕ
      B = booked t (net.link j).from

      nil : B ≡ [] → waiting net c B j (t + 1) ≡ drop (R net c j t) (waiting net c B j t)
      nil e = rw (e, drop-nil (U net c j t), drop-nil (U net c j (t + 1)), drop-nil (R net c j t))

      served : AllByRecursion (λ x. (n : ℕ) × Served net (net.link j).from x n) B
      served = lawful.served t (net.link j).from (omega arith)

      go : Start net j → waiting net c B j (t + 1) ≡ drop (R net c j t) (waiting net c B j t)
      go (begins e _) = let a : U net c j (t + 1) ≡ U net c j t + length (take (R net c j t) (waiting net c B j t)) =
          came_on net sound c (booked t) (m t) t (lawful.law t l) (lawful.keeps t l) (omega (arith, lawful.early)) (λ e. lawful.served t e (omega arith)) j h
          ∙ ap (λ n. U net c j t + n) (rw e (simp length-append (omega arith))) in
          rw (a, ← drop-drop) (drop_min (R net c j t) (waiting net c B j t))
      go (follows i e _) = nil (none_booked net _ i [] B e served)
      go (joins i i' e _) = nil (none_booked net _ i (i' ∷ []) B e served)
      go (first_branch i j' e _) = nil (none_booked net _ i [] B e served)
      go (second_branch i j' e _) = nil (none_booked net _ i [] B e served)

  queue : (f : ℕ → ℕ) (j : ℕ) → j < net.links
      → sum_by f (waiting net c (booked t (net.link j).from) j t)
      ≡ sum_by f (take (R net c j t) (waiting net c (booked t (net.link j).from) j t)) + sum_by f (waiting net c (booked t (net.link j).from) j (t + 1))
  queue f j h = sym (sum_by-take-drop f (waiting net c (booked t (net.link j).from) j t) (R net c j t))
      ∙ ap (λ xs. sum_by f (take (R net c j t) (waiting net c (booked t (net.link j).from) j t)) + sum_by f xs) (sym (later j h))

  road : (f : Vehicle → ℕ) (i : ℕ) → i < net.links
      → sum_by f (on net c i (t + 1)) + sum_by f (leavers net c i t)
      ≡ sum_by f (on net c i t) + sum_by f (map (λ x. record { exit = x; since = t + 1 }) (arrivals net c (booked t (net.link i).from) i t))
  road f i h = let o = out net sound c T booked m lawful t i l h in let v = v_le_u net sound c T booked m lawful i t h (omega arith) in
      let u = u_mono net sound c T booked m lawful i (t + 1 - (net.link i).free) t h (omega (arith, (sound.link i h).free_least)) (omega arith) in
      let k : V net c i (t + 1) - V net c i t ≡ o.0 = omega arith in
      let e : on net c i (t + 1) ≡ drop o.0 (on net c i t) ++ map (λ x. record { exit = x; since = t + 1 }) (arrivals net c (booked t (net.link i).from) i t) =
      rw ((lawful.law t l).arrive i h, o.1, drop-append-le (V net c i t + o.0) (c.came i t) _ (omega arith), ← drop-drop) in
      rw (e, k) (omega (
        arith,
        sum_by-append f (drop o.0 (on net c i t)) (map (λ x. record { exit = x; since = t + 1 }) (arrivals net c (booked t (net.link i).from) i t)),
        sum_by-take-drop f (on net c i t) o.0,
      ))

-- the sums over a run: of those that wait, those on links, those that come on from an entrance, and those that leave a link
module _ (net : Net) (c : Curves) (w : ℕ → ℕ → ℕ) where
  unfoldable pub waits : (ℕ → List ℕ) → ℕ → ℕ
  waits b t = total net.links (λ j. sum_by (w j) (waiting net c (b (net.link j).from) j t))

  unfoldable pub drives : ℕ → ℕ
  drives t = total net.links (λ i. sum_by (λ v. w i v.exit) (on net c i t))

  unfoldable pub admitted : (ℕ → List ℕ) → ℕ → ℕ
  admitted b t = total net.links (λ j. sum_by (w j) (take (R net c j t) (waiting net c (b (net.link j).from) j t)))

  unfoldable pub released : ℕ → ℕ
  released t = total net.links (λ i. sum_by (λ v. w i v.exit) (leavers net c i t))

-- at the end of its walk a vehicle takes no link
pub ends_walk : (net : Net) (i x : ℕ) → (net.link i).to ≡ x → leaving net x ≡ [] → next net i x ≡ None
ends_walk net i x e l = let q : leaving net (net.link i).to ≡ [] = ap (leaving net) e ∙ l in ap (λ ls. onward ls (net.route (net.link i).to x)) q

pub walks_on : (net : Net) (h x j : ℕ) {i n : ℕ} → Walk net x i n → n ≤ h → is (next net i x) j ≡ true → Bound net h j x
walks_on net h x j (there {i = i} e l) b q = let z : false ≡ true = subst (λ o. is o j ≡ true) (ends_walk net i x e l) q in absurd (both_ways false refl z)
walks_on net h x j (along {i = i} {j = k} {n = n} e r) b q =
    let z : eqb k j ≡ true = subst (λ o. is o j ≡ true) e q in (n, subst (λ y. Walk net x y n) (eqb-true k j z) r, omega arith)

pub all_part : {X : Type 0} (P : X → Type 0) (n k : ℕ) (xs : List X) → AllByRecursion P xs → AllByRecursion P (take n (drop k xs))
all_part P n k xs h = All-take P n (drop k xs) (All-drop P k xs h)

all_joined : {X : Type 0} (P : X → Type 0) (g : ℕ → List X) (is : List ℕ) → ((i : ℕ) → In i is → AllByRecursion P (g i)) → AllByRecursion P (flat_map g is)
all_joined P g [] h = tt
all_joined P g (i ∷ is) h = All-append P (g i) (flat_map g is) (h i (inl refl)) (all_joined P g is (λ k q. h k (inr q)))

all_kept : {X : Type 0} (P Q : X → Type 0) (p : X → Bool) → ((x : X) → P x → p x ≡ true → Q x) → (xs : List X) → AllByRecursion P xs → AllByRecursion Q (filter p xs)
all_kept P Q p f [] h = tt
all_kept P Q p f (x ∷ xs) h = go (p x) (f x h.0) (all_kept P Q p f xs h.1)
  where
    go : (b : Bool) → (b ≡ true → Q x) → AllByRecursion Q (filter p xs) → AllByRecursion Q (cond b (x ∷ filter p xs) (filter p xs))
    go true k r = (k refl, r)
    go false k r = r

module _ (net : Net) (sound : Sound net) (c : Curves) (T : ℕ) (booked : ℕ → ℕ → List ℕ) (m : ℕ → Meaning) (lawful : Timeline net c T booked m)
    (h : ℕ) (most : (e x n : ℕ) → Served net e x n → n ≤ h) where
  -- those that wait for a link
  pub wait_bound : (j t : ℕ) → j < net.links → t ≤ T → AllByRecursion (λ x. Bound net h j x) (booked t (net.link j).from)
  wait_bound j t l k = All-weaker _ _ one _ (lawful.served t (net.link j).from k)
    where
      one : (x : ℕ) → ((n : ℕ) × Served net (net.link j).from x n) → Bound net h j x
      one x q = let n = q.0 in let s = q.1 in let e : j ≡ s.0 = only j s.0 (subst (In j) s.1.1 (leaves net j l)) in
          (n, subst (λ y. Walk net x y n) (sym e) s.2, most _ x n s)

  -- those that come on
  pub came_bound : (j t : ℕ) → j < net.links → t ≤ T → AllByRecursion (λ v. Bound net h j v.exit) (c.came j t)
  came_bound j zero l k = rw (lawful.new_came j l) tt
  came_bound j (suc t) l k = rw (← add-one, (lawful.law t k).arrive j l)
      (All-append _ (c.came j t) _ (came_bound j t l (omega arith)) (All-map _ _ _ (All-append _ _ _
      (all_part (Bound net h j) (R net c j t) (U net c j t) (booked t (net.link j).from) (wait_bound j t l (omega arith)))
      (all_joined _ _ (entering net (net.link j).from) (λ i q. All-map _ _ _ (all_kept (λ (v : Vehicle). Bound net h i v.exit) _ _
      (λ v b e. walks_on net h v.exit j b.1 b.2 e) _ (all_part (λ (v : Vehicle). Bound net h i v.exit) (V net c i (t + 1) - V net c i t) (V net c i t) (c.came i t) (came_bound i t (entered net _ i q).0 (omega arith))))))))
      )

  -- a weight on waiting vehicles and on vehicles, and what each spends as it comes on its first link and as it leaves a link
  module _ (ω σ w sp : ℕ → ℕ → ℕ)
      (off : (j x : ℕ) → Bound net h j x → ω j x ≡ σ j x + w j x)
      (onw : (i x : ℕ) → Bound net h i x → w i x ≡ sp i x + onto (next net i x) (λ j. w j x)) where
    pub step_law : (t : ℕ) → t < T
        → waits net c ω (booked t) t + drives net c w t
        ≡ waits net c ω (booked t) (t + 1) + drives net c w (t + 1) + (admitted net c σ (booked t) t + released net c sp t)
    unfolding waits drives admitted released
    step_law t l =
        let q = total_two net.links _ _ _ (λ j k. queue net sound c T booked m lawful t l (ω j) j k) in
        let d = total_four net.links _ _ _ _ (λ i k. road net sound c T booked m lawful t l (λ v. w i v.exit) i k) in
        let a = total_two net.links _ _ _ (λ j k. sum_map (λ (v : Vehicle). w j v.exit) (λ x. record { exit = x; since = t + 1 }) (arrivals net c (booked t (net.link j).from) j t)
        ∙ sum_by-append (w j) (take (R net c j t) (waiting net c (booked t (net.link j).from) j t)) _) in
        let e = total_two net.links _ _ _ (λ j k. sum_two (ω j) (σ j) (w j) (Bound net h j) _ (off j)
        (all_part (Bound net h j) (R net c j t) (U net c j t) (booked t (net.link j).from) (wait_bound j t k (omega arith)))) in
        let f = total_two net.links _ _ _ (λ i k. sum_two (λ v. w i v.exit) (λ v. sp i v.exit) (λ v. onto (next net i v.exit) (λ j. w j v.exit))
        (λ (v : Vehicle). Bound net h i v.exit) _ (λ v. onw i v.exit)
        (all_part (λ (v : Vehicle). Bound net h i v.exit) (V net c i (t + 1) - V net c i t) (V net c i t) (c.came i t) (came_bound i t k (omega arith)))) in
        let g = moved_on net sound c w t in
        omega arith
