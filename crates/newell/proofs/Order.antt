-- Vehicles pass the nodes in order.
use Rattle.newell.specs.declared.records.Vehicle.{Vehicle}
use Rattle.std.proofs.Common.{◌≡◌, ℕ, ◌+◌, ◌-◌, ◌<◌, ◌≤◌, true, cond, ◌⊎◌, List, [], ◌∷◌, ◌++◌, map, length, get_or, take, drop, sym, refl, ap, ◌∙◌, subst, ap₂, inl, inr, arith, length-drop, length-take, take-add, eq-eqb}
use Rattle.std.specs.List.{flat_map, AllByRecursion}
use Rattle.std.proofs.lemmas.List.{append-nil, take_all, take-append-le, drop_at, get_or-take, get_or-drop, get_or_append_left}
use Rattle.std.proofs.lemmas.Bool.{cases_lt}
use Rattle.network.specs.Net.{Net, Sound, Entrance, entering, leaving, onward, next, is}
use Rattle.network.proofs.Sorts.{in₁, in₂, off₁, off₂}
use Rattle.newell.specs.Plain.{Curves, U, V, R, on, leavers, newcomers, exits, towards, waiting, arrivals}
use Rattle.newell.specs.History.{History, clock, booked, handed, Follows}
use Rattle.newell.specs.Promise.{InOrder}
use Rattle.newell.proofs.Bounds.{none_booked, came_on, out, v_le_u, u_mono, earlier}
use Rattle.std.proofs.Math.Seq.{take-nil, drop-nil}
use Rattle.newell.proofs.Timeline.{Timeline, timeline}

take_min : {X : Type 0} (r : ℕ) (xs : List X) → take (length (take r xs)) xs ≡ take r xs
take_min r xs = go (cases_lt r (length xs))
  where
    go : (r < length xs) ⊎ (length xs ≤ r) → take (length (take r xs)) xs ≡ take r xs
    go (inl h) = let e : length (take r xs) ≡ r = simp length-take (omega arith) in rw e
    go (inr h) = let e : length (take r xs) ≡ length xs = simp length-take (omega arith) in rw (e, take_all (length xs) xs (omega arith), take_all r xs h)

exits_stamped : (t : ℕ) (xs : List ℕ) → exits (map (λ x. record { exit = x; since = t }) xs) ≡ xs
exits_stamped t [] = refl
exits_stamped t (x ∷ xs) = ap (λ ys. x ∷ ys) (exits_stamped t xs)

all_stamped : (t : ℕ) (xs : List ℕ) → AllByRecursion (λ (v : Vehicle). v.since ≡ t) (map (λ x. record { exit = x; since = t }) xs)
all_stamped t [] = tt
all_stamped t (x ∷ xs) = (refl, all_stamped t xs)

-- where one link leaves, all take it
pub all_towards : (net : Net) (i j : ℕ) (vs : List Vehicle) → leaving net (net.link i).to ≡ j ∷ [] → towards net i j vs ≡ vs
all_towards net i j [] l = refl
all_towards net i j (v ∷ vs) l =
    let e : is (next net i v.exit) j ≡ true = ap (λ ls. is (onward ls (net.route (net.link i).to v.exit)) j) l ∙ eq-eqb j j refl in
    ap (λ b. cond b (v ∷ towards net i j vs) (towards net i j vs)) e ∙ ap (λ ws. v ∷ ws) (all_towards net i j vs l)

module _ (net : Net) (sound : Sound net) (h : History) (c : Curves) (f : Follows net c h) where
  lawful : Timeline net c (clock h) (booked h) (handed h)
  lawful = timeline net c h f

  -- those that leave, by their number and by their places
  pub leaver_count : (i t : ℕ) → i < net.links → t < clock h → V net c i t + length (leavers net c i t) ≡ V net c i (t + 1)
  leaver_count i t k l =
      let o = out net sound c (clock h) (booked h) (handed h) lawful t i l k in
      let u = u_mono net sound c (clock h) (booked h) (handed h) lawful i (t + 1 - (net.link i).free) t k (omega (arith, (sound.link i k).free_least)) (omega arith) in
      omega (
        arith,
        length-take (V net c i (t + 1) - V net c i t) (on net c i t),
        length-drop (V net c i t) (c.came i t),
        v_le_u net sound c (clock h) (booked h) (handed h) lawful i t k (omega arith),
      )

  pub leaver_at : (i t q : ℕ) (d : Vehicle) → i < net.links → t < clock h → q < length (leavers net c i t) → get_or (leavers net c i t) q d ≡ get_or (c.came i (t + 1)) (V net c i t + q) d
  leaver_at i t q d k l b =
      let n = leaver_count i t k l in
      let m = length-take (V net c i (t + 1) - V net c i t) (on net c i t) in let m' = length-drop (V net c i t) (c.came i t) in
      get_or-take (V net c i (t + 1) - V net c i t) (on net c i t) q d (omega arith) ∙ get_or-drop (V net c i t) (c.came i t) q d
      ∙ sym (rw (earlier net sound c (clock h) (booked h) (handed h) lawful i t k l).1 (get_or_append_left (c.came i t) _ d (V net c i t + q) (omega arith)))

  left : (i t : ℕ) → i < net.links → t < clock h → take (V net c i (t + 1)) (c.came i (t + 1)) ≡ take (V net c i t) (c.came i t) ++ leavers net c i t
  left i t k l =
      let n = leaver_count i t k l in
      let m = length-take (V net c i (t + 1) - V net c i t) (on net c i t) in let m' = length-drop (V net c i t) (c.came i t) in
      let e : V net c i (t + 1) ≡ V net c i t + (V net c i (t + 1) - V net c i t) = omega arith in
      let r = earlier net sound c (clock h) (booked h) (handed h) lawful i t k l in
      ap (take (V net c i (t + 1))) r.1 ∙ take-append-le (V net c i (t + 1)) (c.came i t) r.0
      (omega (arith, v_le_u net sound c (clock h) (booked h) (handed h) lawful i t k (omega arith)))
      ∙ ap (λ n. take n (c.came i t)) e ∙ take-add (V net c i t) (V net c i (t + 1) - V net c i t) (c.came i t)

  -- those that come on
  fresh : (j t : ℕ) → j < net.links → t < clock h → newcomers net c j t ≡ map (λ x. record { exit = x; since = t + 1 }) (arrivals net c (booked h t (net.link j).from) j t)
  fresh j t k l = ap (drop (U net c j t)) ((lawful.law t l).arrive j k) ∙ drop_at (c.came j t) _ (U net c j t) refl

  arrived : (j t : ℕ) → j < net.links → t < clock h → exits (newcomers net c j t) ≡ arrivals net c (booked h t (net.link j).from) j t
  arrived j t k l = ap exits (fresh j t k l) ∙ exits_stamped (t + 1) _

  -- at an entrance those that wait come on, as many as the link takes
  pub from_queue : (e j t : ℕ) → Entrance net e j → t < clock h
      → (arrivals net c (booked h t (net.link j).from) j t ≡ take (R net c j t) (waiting net c (booked h t e) j t))
      × (U net c j (t + 1) ≡ U net c j t + length (take (R net c j t) (waiting net c (booked h t e) j t)))
  from_queue e j t en l =
      let k = off₁ net e j [] en.1 in
      let z : arrivals net c (booked h t (net.link j).from) j t ≡ take (R net c j t) (waiting net c (booked h t e) j t) =
      ap₂ (λ (n : ℕ) (is : List ℕ). take (R net c j t) (waiting net c (booked h t n) j t) ++ flat_map (λ i. exits (towards net i j (leavers net c i t))) is)
      k.1 (ap (entering net) k.1 ∙ en.0) ∙ append-nil _ in
      let a = came_on net sound c (booked h t) (handed h t) t (lawful.law t l) (lawful.keeps t l) (omega (arith, lawful.early)) (λ e. lawful.served t e (omega arith)) j k.0 in
      (z, a ∙ ap (λ xs. U net c j t + length xs) z)

  admitted : (e j t : ℕ) → Entrance net e j → t < clock h → exits (newcomers net c j t) ≡ take (U net c j (t + 1) - U net c j t) (waiting net c (booked h t e) j t)
  admitted e j t en l =
      let w : List ℕ = waiting net c (booked h t e) j t in let z = from_queue e j t en l in
      let q : U net c j (t + 1) - U net c j t ≡ length (take (R net c j t) w) = omega (arith, z.1) in
      arrived j t (off₁ net e j [] en.1).0 l ∙ z.0 ∙ sym (ap (λ n. take n w) q ∙ take_min (R net c j t) w)

  -- at any other node nobody waits, so that all come from links
  from_links : (n i j t : ℕ) (is : List ℕ) → entering net n ≡ i ∷ is → (j < net.links) × ((net.link j).from ≡ n) → t < clock h
      → exits (newcomers net c j t) ≡ flat_map (λ i. exits (towards net i j (leavers net c i t))) (i ∷ is)
  from_links n i j t is e k l =
      let g : entering net (net.link j).from ≡ i ∷ is = ap (entering net) k.1 ∙ e in
      let b : booked h t (net.link j).from ≡ [] = none_booked net _ i is _ g (lawful.served t (net.link j).from (omega arith)) in
      let w : take (R net c j t) (waiting net c (booked h t (net.link j).from) j t) ≡ [] =
      ap (λ (b : List ℕ). take (R net c j t) (drop (U net c j t) b)) b ∙ ap (take (R net c j t)) (drop-nil (U net c j t)) ∙ take-nil (R net c j t) in
      arrived j t k.0 l ∙ ap₂ (λ (xs : List ℕ) (is : List ℕ). xs ++ flat_map (λ i. exits (towards net i j (leavers net c i t))) is) w g

  one_way : (n i j t : ℕ) → (net.link i).to ≡ n → leaving net n ≡ j ∷ [] → exits (towards net i j (leavers net c i t)) ≡ exits (leavers net c i t)
  one_way n i j t e o = ap exits (all_towards net i j (leavers net c i t) (ap (leaving net) e ∙ o))

  pub is_in_order : (t : ℕ) → t < clock h → InOrder net c h t
  is_in_order t l = record {
    left = λ i k. left i t k l;
    came = λ j k. (lawful.law t l).arrive j k ∙ ap (λ (vs : List Vehicle). c.came j t ++ vs) (sym (fresh j t k l));
    stamped = λ j k. subst (AllByRecursion (λ v. v.since ≡ t + 1)) (sym (fresh j t k l)) (all_stamped (t + 1) _);
    entrance = λ e j en. admitted e j t en l;
    mainline = λ n i j e o. from_links n i j t [] e (off₁ net n j [] o) l ∙ append-nil _ ∙ one_way n i j t (in₁ net n i [] e).1 o;
    merge = λ n i i' j e o. from_links n i j t (i' ∷ []) e (off₁ net n j [] o) l
        ∙ ap₂ (λ (xs ys : List ℕ). xs ++ ys) (one_way n i j t (in₁ net n i (i' ∷ []) e).1 o) (append-nil _ ∙ one_way n i' j t (in₂ net n i i' [] e).1 o);
    diverge = λ n i j j' e o. (
      from_links n i j t [] e (off₁ net n j (j' ∷ []) o) l ∙ append-nil _,
      from_links n i j' t [] e (off₂ net n j j' [] o) l ∙ append-nil _,
    );
  }
