-- Two plain runs for the same calls agree.
use Rattle.newell.specs.declared.records.Vehicle.{Vehicle}
use Rattle.std.proofs.Common.{◌≡◌, ℕ, zero, suc, ◌+◌, ◌-◌, ◌<◌, ◌≤◌, ◌⊎◌, List, [], ◌∷◌, ◌++◌, map, length, take, drop, sym, refl, ap, ◌∙◌, subst, ap₂, subst₂, inl, inr, arith}
use Rattle.std.specs.List.{flat_map}
use Rattle.std.proofs.lemmas.Bool.{cases_eq}
use Rattle.network.specs.Net.{Net, Sound, entering, leaving}
use Rattle.merge.specs.Rules.{Meaning}
use Rattle.newell.specs.Plain.{Curves, U, V, S, R, on, leavers, towards, arrivals, question, Law, Passable}
use Rattle.newell.proofs.Timeline.{Timeline}
use Rattle.newell.specs.History.{History, clock, booked, handed, Follows}
use Rattle.newell.specs.Promise.{Agree}
use Rattle.network.proofs.Places.{In, entered, left_from, End, exits, passes, first_leg, second_leg, branches, end}
use Rattle.newell.proofs.Timeline.{timeline}

pub joined_ext : {X : Type 0} (g k : ℕ → List X) (is : List ℕ) → ((i : ℕ) → In i is → g i ≡ k i) → flat_map g is ≡ flat_map k is
joined_ext g k [] h = refl
joined_ext g k (i ∷ is) h = ap₂ ◌++◌ (h i (inl refl)) (joined_ext g k is (λ j q. h j (inr q)))

pub passable : (net : Net) (c d : Curves) (i j j' t n : ℕ) → S net c i t ≡ S net d i t → R net c j t ≡ R net d j t → R net c j' t ≡ R net d j' t → on net c i t ≡ on net d i t
    → Passable net c i j j' t n → Passable net d i j j' t n
passable net c d i j j' t n s r r' o p = record {
  sent = subst (λ k. n ≤ k) s p.sent;
  one = subst₂ (λ (vs : List Vehicle) k. length (towards net i j (take n vs)) ≤ k) o r p.one;
  other = subst₂ (λ (vs : List Vehicle) k. length (towards net i j' (take n vs)) ≤ k) o r' p.other;
}

-- what two runs that agree up to the clock t have alike
module _ (net : Net) (sound : Sound net) (c d : Curves) (t : ℕ) (agree : Agree net c d t) where
  pub v_same : (i s : ℕ) → i < net.links → s ≤ t → V net c i s ≡ V net d i s
  v_same i s k l = (agree s i l k).1

  pub u_same : (i s : ℕ) → i < net.links → s ≤ t → U net c i s ≡ U net d i s
  u_same i s k l = ap length (agree s i l k).0

  pub s_same : (i : ℕ) → i < net.links → S net c i t ≡ S net d i t
  s_same i k = rw (u_same i (t + 1 - (net.link i).free) k (omega (arith, (sound.link i k).free_least)), v_same i t k (omega arith))

  pub r_same : (i : ℕ) → i < net.links → R net c i t ≡ R net d i t
  r_same i k = rw (v_same i (t + 1 - (net.link i).wave) k (omega (arith, (sound.link i k).wave_least)), u_same i t k (omega arith))

  pub on_same : (i : ℕ) → i < net.links → on net c i t ≡ on net d i t
  on_same i k = ap₂ drop (v_same i t k (omega arith)) (agree t i (omega arith) k).0

  pub question_same : (i i' j : ℕ) → i < net.links → i' < net.links → j < net.links → question net c i i' j t ≡ question net d i i' j t
  question_same i i' j k k' l = λ z. record { clock = t; s1 = s_same i k z; s2 = s_same i' k' z; r = r_same j l z; q1 = (net.link i).capacity; q2 = (net.link i').capacity }

  pub leavers_same : (i : ℕ) → i < net.links → V net c i (t + 1) ≡ V net d i (t + 1) → leavers net c i t ≡ leavers net d i t
  leavers_same i k v = ap₂ take (ap₂ ◌-◌ v (v_same i t k (omega arith))) (on_same i k)

  pub arrivals_same : (b : List ℕ) (j : ℕ) → j < net.links → ((i : ℕ) → i < net.links → V net c i (t + 1) ≡ V net d i (t + 1)) → arrivals net c b j t ≡ arrivals net d b j t
  arrivals_same b j k v = ap₂ (λ (xs ys : List ℕ). xs ++ ys)
      (ap₂ (λ (r u : ℕ). take r (drop u b)) (r_same j k) (u_same j t k (omega arith)))
      (joined_ext _ _ (entering net (net.link j).from) (λ i q. let n = (entered net _ i q).0 in ap (λ vs. map {B = ℕ} (λ v. v.exit) (towards net i j vs)) (leavers_same i n (v i n))))

-- two runs that agree up to the clock t, and keep the law of the step from t, agree after it
module _ (net : Net) (sound : Sound net) (c d : Curves) (booked : ℕ → List ℕ) (m : Meaning) (t : ℕ)
    (law : Law net c booked m t) (law' : Law net d booked m t) (agree : Agree net c d t) where
  pub v_next : (i : ℕ) → i < net.links → V net c i (t + 1) ≡ V net d i (t + 1)
  v_next i k = go (end net sound i k)
    where
      inn : (i' : ℕ) → In i' (entering net (net.link i).to) → i' < net.links
      inn i' q = (entered net _ i' q).0

      off : (j : ℕ) → In j (leaving net (net.link i).to) → j < net.links
      off j q = (left_from net _ j q).0

      v : V net c i t ≡ V net d i t
      v = v_same net sound c d t agree i t k (omega arith)

      go : End net i → V net c i (t + 1) ≡ V net d i (t + 1)
      go (exits e l) = omega (arith, law.exit _ i e l, law'.exit _ i e l, v, s_same net sound c d t agree i k)
      go (passes j e l) = omega (arith, law.mainline _ i j e l, law'.mainline _ i j e l, v, s_same net sound c d t agree i k, r_same net sound c d t agree j (off j (subst (In j) (sym l) (inl refl))))
      go (first_leg i' j e l) =
          (law.merge _ i i' j e l).0 ∙ ap₂ (λ n q. n + (m.splits (net.link i).to [] q).0) v
          (question_same net sound c d t agree i i' j k (inn i' (subst (In i') (sym e) (inr (inl refl)))) (off j (subst (In j) (sym l) (inl refl)))) ∙ sym (law'.merge _ i i' j e l).0
      go (second_leg i' j e l) =
          (law.merge _ i' i j e l).1 ∙ ap₂ (λ n q. n + (m.splits (net.link i).to [] q).1) v
          (question_same net sound c d t agree i' i j (inn i' (subst (In i') (sym e) (inl refl))) k (off j (subst (In j) (sym l) (inl refl)))) ∙ sym (law'.merge _ i' i j e l).1
      go (branches j j' e l) =
          let x = law.diverge _ i j j' e l in let y = law'.diverge _ i j j' e l in
          let r = r_same net sound c d t agree j (off j (subst (In j) (sym l) (inl refl))) in let r' = r_same net sound c d t agree j' (off j' (subst (In j') (sym l) (inr (inl refl)))) in
          let p : Passable net d i j j' t x.0 = passable net c d i j j' t x.0 (s_same net sound c d t agree i k) r r' (on_same net sound c d t agree i k) x.2.holds in
          let q : Passable net c i j j' t y.0 = passable net d c i j j' t y.0 (sym (s_same net sound c d t agree i k)) (sym r) (sym r') (sym (on_same net sound c d t agree i k)) y.2.holds in
          omega (arith, x.1, y.1, v, y.2.most x.0 p, x.2.most y.0 q)

  pub came_next : (j : ℕ) → j < net.links → c.came j (t + 1) ≡ d.came j (t + 1)
  came_next j k = law.arrive j k
      ∙ ap₂ (λ (vs : List Vehicle) (xs : List ℕ). vs ++ map (λ x. record { exit = x; since = t + 1 }) xs) (agree t j (omega arith) k).0
      (arrivals_same net sound c d t agree (booked (net.link j).from) j k v_next)
      ∙ sym (law'.arrive j k)

agreed : (net : Net) (sound : Sound net) (c d : Curves) (T : ℕ) (booked : ℕ → ℕ → List ℕ) (m : ℕ → Meaning) → Timeline net c T booked m → Timeline net d T booked m
    → (t : ℕ) → t ≤ T → Agree net c d t
agreed net sound c d T booked m lc ld zero l s i a k = let e : s ≡ 0 = omega arith in
    rw e (lc.new_came i k ∙ sym (ld.new_came i k), lc.new_left i k ∙ sym (ld.new_left i k))
agreed net sound c d T booked m lc ld (suc t) l s i a k = go (cases_eq s (t + 1)) (agreed net sound c d T booked m lc ld t (omega arith))
  where
    go : (s ≡ t + 1) ⊎ (s ≡ t + 1 → ⊥) → Agree net c d t → (c.came i s ≡ d.came i s) × (c.left i s ≡ d.left i s)
    go (inl e) r = rw e (came_next net sound c d (booked t) (m t) t (lc.law t l) (ld.law t l) r i k, v_next net sound c d (booked t) (m t) t (lc.law t l) (ld.law t l) r i k)
    go (inr e) r = r s i (omega arith) k

-- for the same calls with the same answers
pub same_history : (net : Net) → Sound net → (h : History) (c d : Curves) → Follows net c h → Follows net d h → Agree net c d (clock h)
same_history net sound h c d f g = agreed net sound c d (clock h) (booked h) (handed h) (timeline net c h f) (timeline net d h g) (clock h) (omega arith)
