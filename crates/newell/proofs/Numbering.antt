-- The numbers that clearing asks for are there.
use Rattle.std.proofs.Common.{◌≡◌, ℕ, zero, suc, ◌+◌, ◌-◌, ◌*◌, ◌/◌, ◌%◌, ◌<◌, ◌≤◌, min, cond, ◌⊎◌, List, [], ◌∷◌, Some, None, Option, sym, refl, ◌∙◌, subst, inl, inr, mod-lt, arith, lit<, eq-eqb}
use native.Mathlib.Nat.{mod-add-div', mul-mod_left}
use Rattle.std.proofs.lemmas.Bool.{cases_lt, cases_eq}
use Rattle.merge.specs.declared.gate.Gate.{Gate}
use Rattle.merge.specs.Metering.{cut_limit}
use Rattle.network.specs.Net.{Net, Sound, Walk, there, along, Served, MostLinks, entering, leaving, next}
use Rattle.network.proofs.Places.{left_from}
use Rattle.network.proofs.Sorts.{off₁}
use Rattle.newell.specs.Numbers.{LongestWalkThere, LongestStepsThere, PeriodOpens, MeterOpens}
use Rattle.newell.proofs.Weights.{next_leaves}
use Rattle.newell.proofs.Moments.{served_bound}

-- what can be decided at each number can be sought below a bound
pub some_below : (P : ℕ → Type 0) → ((i : ℕ) → P i ⊎ (P i → ⊥)) → (n : ℕ) → ((i : ℕ) × (i < n) × P i) ⊎ ((i : ℕ) → i < n → P i → ⊥)
some_below P dec zero = inr (λ i l p. omega arith)
some_below P dec (suc n) = go (dec n) (some_below P dec n)
  where
    go : P n ⊎ (P n → ⊥) → ((i : ℕ) × (i < n) × P i) ⊎ ((i : ℕ) → i < n → P i → ⊥) → ((i : ℕ) × (i < suc n) × P i) ⊎ ((i : ℕ) → i < suc n → P i → ⊥)
    go (inl p) r = inl (n, omega arith, p)
    go (inr f) (inl q) = inl (q.0, omega (arith, q.1), q.2)
    go (inr f) (inr g) = inr (λ i l p. here i l p (cases_eq i n))
      where
        here : (i : ℕ) → i < suc n → P i → (i ≡ n) ⊎ (i ≡ n → ⊥) → ⊥
        here i l p (inl e) = f (subst P e p)
        here i l p (inr e) = g i (omega arith) p

module _ (net : Net) (x : ℕ) where
  -- a walk by its first link
  Turn : ℕ → ℕ → Type 0
  Turn i n = ((n ≡ 1) × ((net.link i).to ≡ x) × (leaving net x ≡ [])) ⊎ ((j : ℕ) × (k : ℕ) × (n ≡ suc k) × (next net i x ≡ Some j) × Walk net x j k)

  turn : {i n : ℕ} → Walk net x i n → Turn i n
  unfolding Turn
  turn (there e l) = inl (refl, e, l)
  turn (along {j = j} {n = k} e w) = inr (j, k, refl, e, w)

  is_nil : (xs : List ℕ) → (xs ≡ []) ⊎ (xs ≡ [] → ⊥)
  is_nil [] = inl refl
  is_nil (y ∷ ys) = inr (λ e. cc)

  pub walk? : (n i : ℕ) → Walk net x i n ⊎ (Walk net x i n → ⊥)
  unfolding Turn
  walk? zero i = inr (λ w. go (turn w))
    where
      go : Turn i zero → ⊥
      go (inl t) = omega (arith, t.0)
      go (inr t) = omega (arith, t.2)
  walk? (suc zero) i = go (cases_eq (net.link i).to x) (is_nil (leaving net x))
    where
      no : (((net.link i).to ≡ x) × (leaving net x ≡ []) → ⊥) → Turn i 1 → ⊥
      no f (inl t) = f (t.1, t.2)
      no f (inr t) = none (subst (Walk net x t.0) (omega (arith, t.2)) t.4)
        where
          none : {i : ℕ} → Walk net x i 0 → ⊥
          none w = last (turn w)
            where
              last : {i : ℕ} → Turn i 0 → ⊥
              last (inl t) = omega (arith, t.0)
              last (inr t) = omega (arith, t.2)

      go : ((net.link i).to ≡ x) ⊎ ((net.link i).to ≡ x → ⊥) → (leaving net x ≡ []) ⊎ (leaving net x ≡ [] → ⊥) → Walk net x i 1 ⊎ (Walk net x i 1 → ⊥)
      go (inl a) (inl b) = inl (there a b)
      go (inr a) b = inr (λ w. no (λ q. a q.0) (turn w))
      go (inl a) (inr b) = inr (λ w. no (λ q. b q.1) (turn w))
  walk? (suc (suc n)) i = go (next net i x) refl (λ j. walk? (suc n) j)
    where
      no : ((j : ℕ) → next net i x ≡ Some j → Walk net x j (suc n) → ⊥) → Turn i (suc (suc n)) → ⊥
      no f (inl t) = omega (arith, t.0)
      no f (inr t) = f t.0 t.3 (subst (Walk net x t.0) (omega (arith, t.2)) t.4)

      go : (o : Option ℕ) → next net i x ≡ o → ((j : ℕ) → Walk net x j (suc n) ⊎ (Walk net x j (suc n) → ⊥)) → Walk net x i (suc (suc n)) ⊎ (Walk net x i (suc (suc n)) → ⊥)
      go None e rec = inr (λ w. no (λ j q v. cc) (turn w))
      go (Some j) e rec = step (rec j)
        where
          step : Walk net x j (suc n) ⊎ (Walk net x j (suc n) → ⊥) → Walk net x i (suc (suc n)) ⊎ (Walk net x i (suc (suc n)) → ⊥)
          step (inl w) = inl (along e w)
          step (inr f) = inr (λ w. no (λ k q v. f (let z : k ≡ j = cc in subst (λ k. Walk net x k (suc n)) z v)) (turn w))

served? : (net : Net) (n e x : ℕ) → Served net e x n ⊎ (Served net e x n → ⊥)
served? net n e x = go (entering net e) (leaving net e) refl refl
  where
    go : (is js : List ℕ) → entering net e ≡ is → leaving net e ≡ js → Served net e x n ⊎ (Served net e x n → ⊥)
    go (i ∷ is) js a b = inr (λ s. let z : i ∷ is ≡ [] = sym a ∙ s.1.0 in cc)
    go [] [] a b = inr (λ s. let z : [] ≡ s.0 ∷ [] = sym b ∙ s.1.1 in cc)
    go [] (j ∷ k ∷ js) a b = inr (λ s. let z : j ∷ k ∷ js ≡ s.0 ∷ [] = sym b ∙ s.1.1 in cc)
    go [] (j ∷ []) a b = walks (walk? net x n j)
      where
        walks : Walk net x j n ⊎ (Walk net x j n → ⊥) → Served net e x n ⊎ (Served net e x n → ⊥)
        walks (inl w) = inl (j, (a, b), w)
        walks (inr f) = inr (λ s. let z : j ∷ [] ≡ s.0 ∷ [] = sym b ∙ s.1.1 in let y : s.0 ≡ j = cc in f (subst (λ j. Walk net x j n) y s.2))

-- a walk ends at a node
walk_end : (net : Net) (sound : Sound net) (x : ℕ) {i n : ℕ} → Walk net x i n → i < net.links → x ≤ net.nodes
walk_end net sound x (there {i = i} e l) k = omega (arith, e, (sound.link i k).to_node)
walk_end net sound x (along {i = i} {j = j} e w) k = walk_end net sound x w (left_from net _ j (next_leaves net sound i x j e)).0

pub longest_walk_there : LongestWalkThere
longest_walk_there net sound = most net.nodes (served_bound net sound)
  where
    pairs : (n : ℕ) → ((e : ℕ) × (e < net.nodes + 1) × ((x : ℕ) × (x < net.nodes + 1) × Served net e x n))
        ⊎ ((e : ℕ) → e < net.nodes + 1 → ((x : ℕ) × (x < net.nodes + 1) × Served net e x n) → ⊥)
    pairs n = some_below _ (λ e. flip e (some_below (λ x. Served net e x n) (served? net n e) (net.nodes + 1))) (net.nodes + 1)
      where
        flip : (e : ℕ) → ((x : ℕ) × (x < net.nodes + 1) × Served net e x n) ⊎ ((x : ℕ) → x < net.nodes + 1 → Served net e x n → ⊥)
            → ((x : ℕ) × (x < net.nodes + 1) × Served net e x n) ⊎ (((x : ℕ) × (x < net.nodes + 1) × Served net e x n) → ⊥)
        flip e (inl q) = inl q
        flip e (inr f) = inr (λ q. f q.0 q.1 q.2)

    most : (k : ℕ) → ((e x n : ℕ) → Served net e x n → n ≤ k) → (H : ℕ) × MostLinks net H
    most zero b = (0, record { bound = b; met = inl refl })
    most (suc k) b = go (pairs (suc k)) (most k)
      where
        go : ((e : ℕ) × (e < net.nodes + 1) × ((x : ℕ) × (x < net.nodes + 1) × Served net e x (suc k)))
            ⊎ ((e : ℕ) → e < net.nodes + 1 → ((x : ℕ) × (x < net.nodes + 1) × Served net e x (suc k)) → ⊥)
            → (((e x n : ℕ) → Served net e x n → n ≤ k) → (H : ℕ) × MostLinks net H) → (H : ℕ) × MostLinks net H
        go (inl q) rec = (suc k, record { bound = b; met = inr (q.0, q.2.0, q.2.2) })
        go (inr f) rec = rec (λ e x n s. less e x n s (cases_eq n (suc k)))
          where
            less : (e x n : ℕ) → Served net e x n → (n ≡ suc k) ⊎ (n ≡ suc k → ⊥) → n ≤ k
            less e x n s (inl z) = let p = off₁ net e s.0 [] s.1.1 in let l = sound.link s.0 p.0 in
                absurd (f e (omega (arith, p.1, l.upward, l.to_node)) (x, omega (arith, walk_end net sound x s.2 p.0), subst (Served net e x) z s))
            less e x n s (inr z) = omega (arith, b e x n s)

greater : (a b : ℕ) → (w : ℕ) × (a ≤ w) × (b ≤ w) × ((w ≡ a) ⊎ (w ≡ b))
greater a b = go (cases_lt a b)
  where
    go : (a < b) ⊎ (b ≤ a) → (w : ℕ) × (a ≤ w) × (b ≤ w) × ((w ≡ a) ⊎ (w ≡ b))
    go (inl l) = (b, omega arith, omega arith, inr refl)
    go (inr l) = (a, omega arith, l, inl refl)

pub longest_steps_there : LongestStepsThere
longest_steps_there net sound =
    let b = best (net.links - 1) (omega (arith, sound.links_least)) in
    (b.0, record { free = λ i k. (b.1 i (omega arith)).0; wave = λ i k. (b.1 i (omega arith)).1; met = b.2 })
  where
    Met : ℕ → Type 0
    Met w = (i : ℕ) × (i < net.links) × ((w ≡ (net.link i).free) ⊎ (w ≡ (net.link i).wave))

    best : (n : ℕ) → n < net.links → (w : ℕ) × ((i : ℕ) → i ≤ n → ((net.link i).free ≤ w) × ((net.link i).wave ≤ w)) × Met w
    best zero k = let g = greater (net.link 0).free (net.link 0).wave in
        (g.0, λ i l. let e : 0 ≡ i = omega arith in subst (λ i. ((net.link i).free ≤ g.0) × ((net.link i).wave ≤ g.0)) e (g.1, g.2), (0, k, g.3))
    best (suc n) k = go (best n (omega arith)) (greater (net.link (suc n)).free (net.link (suc n)).wave)
      where
        go : ((w : ℕ) × ((i : ℕ) → i ≤ n → ((net.link i).free ≤ w) × ((net.link i).wave ≤ w)) × Met w)
            → ((w : ℕ) × ((net.link (suc n)).free ≤ w) × ((net.link (suc n)).wave ≤ w) × ((w ≡ (net.link (suc n)).free) ⊎ (w ≡ (net.link (suc n)).wave)))
            → (w : ℕ) × ((i : ℕ) → i ≤ suc n → ((net.link i).free ≤ w) × ((net.link i).wave ≤ w)) × Met w
        go b o = let g = greater b.0 o.0 in (g.0, λ i l. all g i l (cases_eq (suc n) i), met g g.3)
          where
            all : (g : (w : ℕ) × (b.0 ≤ w) × (o.0 ≤ w) × ((w ≡ b.0) ⊎ (w ≡ o.0))) (i : ℕ) → i ≤ suc n → (suc n ≡ i) ⊎ (suc n ≡ i → ⊥)
                → ((net.link i).free ≤ g.0) × ((net.link i).wave ≤ g.0)
            all g i l (inl e) = subst (λ i. ((net.link i).free ≤ g.0) × ((net.link i).wave ≤ g.0)) e (omega (arith, o.1, g.2), omega (arith, o.2, g.2))
            all g i l (inr e) = let r = b.1 i (omega arith) in (omega (arith, r.0, g.1), omega (arith, r.1, g.1))

            met : (g : (w : ℕ) × (b.0 ≤ w) × (o.0 ≤ w) × ((w ≡ b.0) ⊎ (w ≡ o.0))) → (g.0 ≡ b.0) ⊎ (g.0 ≡ o.0) → Met g.0
            met g (inl e) = subst Met (sym e) b.2
            met g (inr e) = subst Met (sym e) (suc n, k, o.3)

pub period_opens : PeriodOpens
period_opens net m low high p z by = record {
  least = omega (arith, by.least 0, by.most 0);
  first = λ s a b n i i' j e o. let u = due n s in (u.0, u.1, u.2, (by.opened u.0 n (omega (arith, u.1)) (omega (arith, u.2)) u.3).0);
  second = λ s a b n i i' j e o. let u = due n s in (u.0, u.1, u.2, (by.opened u.0 n (omega (arith, u.1)) (omega (arith, u.2)) u.3).1);
}
  where
    -- in any p n steps running there is a multiple
    due : (n s : ℕ) → (u : ℕ) × (s ≤ u) × (u < s + z) × (u % p n ≡ 0)
    due n s =
        let q : ℕ = (s + (p n - 1)) / p n in
        let d = mod-add-div' (s + (p n - 1)) (p n) in let r = mod-lt (s + (p n - 1)) {m = p n} (omega (arith, by.least n)) in
        (q * p n, omega (arith, d, r, by.least n), omega (arith, d, r, by.least n, by.most n), mul-mod_left q (p n))

-- the period of a gate, and 1 where there is none
period_of : Option Gate → ℕ
period_of None = 1
period_of (Some g) = g.period

pub meter_opens : MeterOpens
unfolding period_of
meter_opens net m low high gates z by = period_opens net m low high (λ n. period_of (gates n)) z (record {
  least = λ n. (bounds n (gates n) refl).0;
  most = λ n. (bounds n (gates n) refl).1;
  opened = λ t n a b e. subst (λ (l : ℕ × ℕ). (0 < l.0) × (0 < l.1)) (sym (by.limits t n a b)) (lit< tt, green (gates n) t e);
})
  where
    bounds : (n : ℕ) (o : Option Gate) → gates n ≡ o → (1 ≤ period_of o) × (period_of o ≤ z)
    bounds n None e = (omega arith, by.least)
    bounds n (Some g) e = (g.timed.0, by.gate n g e)

    green : (o : Option Gate) (t : ℕ) → t % period_of o ≡ 0 → 0 < cut_limit o t 65535
    green None t q = lit< tt
    green (Some g) t q = subst (λ b. 0 < cond b (min g.rate 65535) 0) (sym (eq-eqb (t % g.period) 0 q)) (omega (arith, g.rated.0))
