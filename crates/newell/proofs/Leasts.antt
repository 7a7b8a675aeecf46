-- Newell's counts.
use Rattle.newell.specs.declared.records.Vehicle.{Vehicle}
use Rattle.std.proofs.Common.{◌≡◌, ℕ, zero, suc, ◌+◌, ◌-◌, ◌<◌, ◌≤◌, min, Bool, cond, ◌⊎◌, List, [], ◌∷◌, length, Some, sym, refl, ap, ◌∙◌, subst, inl, inr, add-one, arith, length-append, length-drop, length-take, eq-eqb, ne_eqb}
use lib.ListN.{length-map}
use Rattle.std.specs.List.{AllByRecursion}
use Rattle.network.specs.Net.{Net, Sound, Walk, there, along, Entrance, entering, leaving, next, is}
use Rattle.network.proofs.Places.{In, pair}
use Rattle.network.proofs.Sorts.{in₁, in₂, off₁, off₂, two_rise}
use Rattle.newell.specs.Plain.{Curves, U, V, R, leavers, newcomers, exits, towards, waiting}
use Rattle.newell.specs.History.{History, clock, booked, handed, Follows}
use Rattle.newell.specs.Promise.{InOrder}
use Rattle.newell.specs.Least.{Balanced, Least, NodesBalanced, LeastOfThree}
use Rattle.newell.proofs.Weights.{Bound, all_part, came_bound, next_leaves}
use Rattle.newell.proofs.Safety.{sending, taking}
use Rattle.newell.proofs.Account.{within}
use Rattle.newell.proofs.Moments.{served_bound}
use Rattle.newell.proofs.Order.{leaver_count, from_queue, is_in_order}
use Rattle.newell.proofs.Timeline.{Timeline, timeline}

-- of vehicles that take one of two links, each takes one
split : (net : Net) (i j j' : ℕ) → (j ≡ j' → ⊥) → (vs : List Vehicle) → AllByRecursion (λ (v : Vehicle). (next net i v.exit ≡ Some j) ⊎ (next net i v.exit ≡ Some j')) vs
    → length (towards net i j vs) + length (towards net i j' vs) ≡ length vs
split net i j j' d [] a = refl
split net i j j' d (v ∷ vs) a = go a.0 (split net i j j' d vs a.1)
  where
    Goal : Bool → Bool → Type 0
    Goal b b' = length (cond b (v ∷ towards net i j vs) (towards net i j vs)) + length (cond b' (v ∷ towards net i j' vs) (towards net i j' vs)) ≡ suc (length vs)

    go : (next net i v.exit ≡ Some j) ⊎ (next net i v.exit ≡ Some j') → length (towards net i j vs) + length (towards net i j' vs) ≡ length vs
        → Goal (is (next net i v.exit) j) (is (next net i v.exit) j')
    go (inl e) r = subst (λ o. Goal (is o j) (is o j')) (sym e) (rw (eq-eqb j j refl, ne_eqb j j' d) (omega arith))
    go (inr e) r = subst (λ o. Goal (is o j) (is o j')) (sym e) (rw (eq-eqb j' j' refl, ne_eqb j' j (λ q. d (sym q))) (omega arith))

module _ (net : Net) (sound : Sound net) (h : History) (c : Curves) (f : Follows net c h) where
  lawful : Timeline net c (clock h) (booked h) (handed h)
  lawful = timeline net c h f

  -- what comes on and what leaves, as numbers
  come : (j t : ℕ) → j < net.links → t < clock h → U net c j (t + 1) ≡ U net c j t + length (newcomers net c j t)
  come j t k l = ap length ((is_in_order net sound h c f t l).came j k) ∙ length-append (c.came j t) (newcomers net c j t)

  -- where a link ends at a diverge, each vehicle takes one of its two branches
  branch : (n i j j' t : ℕ) → entering net n ≡ i ∷ [] → leaving net n ≡ j ∷ j' ∷ [] → t < clock h
      → AllByRecursion (λ (v : Vehicle). (next net i v.exit ≡ Some j) ⊎ (next net i v.exit ≡ Some j')) (leavers net c i t)
  branch n i j j' t e o l = each (leavers net c i t) (all_part (λ (v : Vehicle). Bound net net.nodes i v.exit) (V net c i (t + 1) - V net c i t) (V net c i t) (c.came i t)
      (came_bound net sound c (clock h) (booked h) (handed h) lawful net.nodes (served_bound net sound) i t k (omega arith)))
    where
      k : i < net.links
      k = (in₁ net n i [] e).0

      here : (net.link i).to ≡ n
      here = (in₁ net n i [] e).1

      one : (x m : ℕ) → Walk net x i m → (next net i x ≡ Some j) ⊎ (next net i x ≡ Some j')
      one x m w = go w refl
        where
          which : (q : ℕ) → next net i x ≡ Some q → (q ≡ j) ⊎ (q ≡ j') → (next net i x ≡ Some j) ⊎ (next net i x ≡ Some j')
          which q z (inl y) = inl (z ∙ ap Some y)
          which q z (inr y) = inr (z ∙ ap Some y)

          go : {a b : ℕ} → Walk net x a b → a ≡ i → (next net i x ≡ Some j) ⊎ (next net i x ≡ Some j')
          go (there {i = a} y z) q = let u : j ∷ j' ∷ [] ≡ [] = sym o ∙ ap (leaving net) (sym here ∙ ap (λ p. (net.link p).to) (sym q) ∙ y) ∙ z in
              let v : ◌≡◌ {A = ℕ} 0 1 = cc in absurd (omega arith)
          go (along {i = a} {j = b} y z) q = let u : next net i x ≡ Some b = ap (λ p. next net p x) (sym q) ∙ y in
              which b u (pair b j j' (subst (In b) (ap (leaving net) here ∙ o) (next_leaves net sound i x b u)))

      each : (vs : List Vehicle) → AllByRecursion (λ (v : Vehicle). Bound net net.nodes i v.exit) vs → AllByRecursion (λ (v : Vehicle). (next net i v.exit ≡ Some j) ⊎ (next net i v.exit ≡ Some j')) vs
      each [] a = tt
      each (v ∷ vs) a = (one v.exit a.0.0 a.0.1, each vs a.1)

  balanced : (t : ℕ) → t ≤ clock h → Balanced net c h t
  balanced zero l = record {
    mainline = λ n i j e o. omega (arith, ap length (lawful.new_came j (off₁ net n j [] o).0), lawful.new_left i (in₁ net n i [] e).0);
    merge = λ n i i' j e o. omega (arith, ap length (lawful.new_came j (off₁ net n j [] o).0), lawful.new_left i (in₁ net n i (i' ∷ []) e).0, lawful.new_left i' (in₂ net n i i' [] e).0);
    diverge = λ n i j j' e o. omega (arith, ap length (lawful.new_came j (off₁ net n j (j' ∷ []) o).0), ap length (lawful.new_came j' (off₂ net n j j' [] o).0), lawful.new_left i (in₁ net n i [] e).0);
  }
  balanced (suc t) l = rw (← add-one) (go (balanced t (omega arith)) (is_in_order net sound h c f t (omega arith)))
    where
      l' : t < clock h
      l' = omega arith

      go : Balanced net c h t → InOrder net c h t → Balanced net c h (t + 1)
      go b q = record {
        mainline = λ n i j e o. let k = (off₁ net n j [] o).0 in omega (
          arith,
          b.mainline n i j e o,
          come j t k l',
          leaver_count net sound h c f i t (in₁ net n i [] e).0 l',
          sym (length-map (newcomers net c j t) (λ v. v.exit)) ∙ ap length (q.mainline n i j e o) ∙ length-map (leavers net c i t) (λ v. v.exit),
        );
        merge = λ n i i' j e o. let k = (off₁ net n j [] o).0 in omega (
          arith,
          b.merge n i i' j e o,
          come j t k l',
          leaver_count net sound h c f i t (in₁ net n i (i' ∷ []) e).0 l',
          leaver_count net sound h c f i' t (in₂ net n i i' [] e).0 l',
          sym (length-map (newcomers net c j t) (λ v. v.exit)) ∙ ap length (q.merge n i i' j e o) ∙ length-append (exits (leavers net c i t)) (exits (leavers net c i' t)),
          length-map (leavers net c i t) (λ v. v.exit),
          length-map (leavers net c i' t) (λ v. v.exit),
        );
        diverge = λ n i j j' e o. let k = (off₁ net n j (j' ∷ []) o).0 in let k' = (off₂ net n j j' [] o).0 in omega (
          arith,
          b.diverge n i j j' e o,
          come j t k l',
          come j' t k' l',
          leaver_count net sound h c f i t (in₁ net n i [] e).0 l',
          sym (length-map (newcomers net c j t) (λ v. v.exit)) ∙ ap length (q.diverge n i j j' e o).0 ∙ length-map (towards net i j (leavers net c i t)) (λ v. v.exit),
          sym (length-map (newcomers net c j' t) (λ v. v.exit)) ∙ ap length (q.diverge n i j j' e o).1 ∙ length-map (towards net i j' (leavers net c i t)) (λ v. v.exit),
          split net i j j' (λ z. let y = two_rise _ net.links j j' o in omega (arith, y, z)) (leavers net c i t) (branch n i j j' t e o l'),
        );
      }

  least : (t : ℕ) → t < clock h → Least net c h t
  least t l = record {
    entrance = entrance;
    mainline = λ n i j e o. let k = (in₁ net n i [] e).0 in let k' = (off₁ net n j [] o).0 in
        omega (arith, (lawful.law t l).mainline n i j e o, (balanced t (omega arith)).mainline n i j e o, sent i k, room j k');
    exit = λ x i ex. omega (arith, (lawful.law t l).exit x i ex.0 ex.1, sent i (in₁ net x i [] ex.0).0);
  }
    where
      sent : (i : ℕ) → i < net.links → V net c i t ≤ U net c i (t + 1 - (net.link i).free)
      sent i k = subst (λ u. V net c i t ≤ U net c i u) (omega (arith, (sound.link i k).free_least)) (sending net sound c (clock h) (booked h) (handed h) lawful i t k (omega arith))

      room : (j : ℕ) → j < net.links → U net c j t ≤ V net c j (t + 1 - (net.link j).wave) + (net.link j).storage
      room j k = subst (λ u. U net c j t ≤ V net c j u + (net.link j).storage) (omega (arith, (sound.link j k).wave_least)) (taking net sound c (clock h) (booked h) (handed h) lawful j t k (omega arith))

      entrance : (e j : ℕ) → Entrance net e j
          → U net c j (t + 1) ≡ min (length (booked h t e)) (min (V net c j (t + 1 - (net.link j).wave) + (net.link j).storage) (U net c j t + (net.link j).capacity))
      entrance e j en =
          let k = off₁ net e j [] en.1 in let w : List ℕ = waiting net c (booked h t e) j t in
          let q : U net c j t ≤ length (booked h t e) = subst (λ n. U net c j t ≤ length (booked h t n)) k.1
          (within net sound c (clock h) (booked h) (handed h) lawful j t k.0 (ap (entering net) k.1 ∙ en.0) (omega arith)) in
          omega (arith, q, (from_queue net sound h c f e j t en l).1, length-take (R net c j t) w, length-drop (U net c j t) (booked h t e), room j k.0)

pub nodes_balanced : NodesBalanced
nodes_balanced net sound h c f = balanced net sound h c f

pub least_of_three : LeastOfThree
least_of_three net sound h c f = least net sound h c f
