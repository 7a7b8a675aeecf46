-- Questions and refusals in what the run holds, and calls one after another.
use Rattle.std.proofs.Common.{◌≡◌, ℕ, ◌+◌, ◌<◌, ◌≤◌, ◌⊎◌, List, [], ◌∷◌, ◌++◌, length, sym, refl, ap, ◌∙◌, subst, inl, inr, arith}
use mathlib.Core.Logic.{∥∥₁_elim, ∥∥₁_prop}
use Rattle.std.proofs.lemmas.List.{append-nil}
use Rattle.newell.specs.declared.records.StepRow.{StepRow}
use Rattle.network.specs.Net.{Net, Sound, Entrance, Exit, Walk}
use Rattle.network.proofs.Places.{In, entered, left_from, only}
use Rattle.merge.specs.Rules.{Meaning}
use Rattle.newell.specs.Plain.{V, waiting}
use Rattle.newell.specs.History.{History, book, step, ask_link, ask_entrance, ask_exit, told, refused, clock, booked}
use Rattle.newell.specs.Now.{RunNow, Opened, Moment, Carries, Reached, EntranceTells, ExitTells, Ran, RanCarries, EachMoment}
use Rattle.newell.proofs.Moments.{gone_left}
use Rattle.newell.proofs.Carried.{idle_carries, opening_starts}

-- an entrance has one link
one : (net : Net) (e j k : ℕ) → Entrance net e j → Entrance net e k → k ≡ j
one net e j k a b = only k j (subst (In k) (sym b.1 ∙ a.1) (inl refl))

-- those that wait, as the plain run has them
waits : (net : Net) (r : RunNow) (e j : ℕ) → Entrance net e j → (h : History) (at : Moment net h r)
    → length (r.queue j) ≡ length (waiting net at.curves (booked h (clock h) e) j (clock h))
waits net r e j en h at = let p = left_from net e j (subst (In j) (sym en.1) (inl refl)) in
    subst (λ u. length (r.queue j) ≡ length (waiting net at.curves (booked h (clock h) u) j (clock h))) p.1 (ap length (at.shows.queue j p.0))

pub entrance_tells : EntranceTells
entrance_tells net r e j en = idle_carries net r (ask_entrance e (told (length (r.queue j)))) tt (λ h at. inr (
  (j, en),
  λ k w. waits net r e j en h at ∙ ap (λ k. length (waiting net at.curves (booked h (clock h) e) k (clock h))) (sym (one net e j k en w)),
))

pub exit_tells : ExitTells
exit_tells net r x i ex = idle_carries net r (ask_exit x (told ((r.link i).offs 0))) tt (λ h at. inr (
  (i, ex),
  λ k w. let e : k ≡ i = only k i (subst (In k) (sym w.0 ∙ ex.0) (inl refl)) in
      let l = (entered net x k (subst (In k) (sym w.0) (inl refl))).0 in
      ap (λ k. (r.link k).offs 0) (sym e) ∙ at.shows.offs k 0 l (omega arith) ∙ ap (V net at.curves k) (omega arith)
      ∙ sym (gone_left net at.sound at.curves h at.follows k l),
))

-- questions about what is not there
pub no_link : (net : Net) (r : RunNow) (n : ℕ) → (n < 1) ⊎ (net.links < n) → Carries net r (ask_link n (refused 38)) r
no_link net r n b = idle_carries net r (ask_link n (refused 38)) tt (λ h at. inl (go b, refl))
  where
    go : (n < 1) ⊎ (net.links < n) → ((1 ≤ n) × (n ≤ net.links)) → ⊥
    go (inl c) z = omega (arith, z.0)
    go (inr c) z = omega (arith, z.1)

pub no_entrance : (net : Net) (r : RunNow) (e : ℕ) → ((j : ℕ) → Entrance net e j → ⊥) → Carries net r (ask_entrance e (refused 32)) r
no_entrance net r e b = idle_carries net r (ask_entrance e (refused 32)) tt (λ h at. inl ((λ w. b w.0 w.1), refl))

pub no_exit : (net : Net) (r : RunNow) (x : ℕ) → ((i : ℕ) → Exit net x i → ⊥) → Carries net r (ask_exit x (refused 33)) r
no_exit net r x b = idle_carries net r (ask_exit x (refused 33)) tt (λ h at. inl ((λ w. b w.0 w.1), refl))

-- the refusals of a booking, each where the checks ahead of it are met
module _ (net : Net) (r : RunNow) (e x n : ℕ) where
  pub book_no_entrance : ((j : ℕ) → Entrance net e j → ⊥) → Carries net r (book e x n (refused 32)) r
  book_no_entrance b = idle_carries net r (book e x n (refused 32)) tt (λ h at. inl ((λ w. b w.0 w.1), refl))

  pub book_no_exit : (j : ℕ) → Entrance net e j → ((i : ℕ) → Exit net x i → ⊥) → Carries net r (book e x n (refused 33)) r
  book_no_exit j en b = idle_carries net r (book e x n (refused 33)) tt (λ h at. inr ((j, en), inl ((λ w. b w.0 w.1), refl)))

  pub book_not_served : (j i : ℕ) → Entrance net e j → Exit net x i → ((k : ℕ) → Walk net x j k → ⊥) → Carries net r (book e x n (refused 34)) r
  book_not_served j i en ex b = idle_carries net r (book e x n (refused 34)) tt (λ h at. inr (
    (j, en),
    inr (
      (i, ex),
      inl ((λ w. b w.0 (subst (λ q. Walk net x q w.0) (one net e j w.1.0 en w.1.1) w.1.2)), refl),
    ),
  ))

  pub book_bad_count : (j i k : ℕ) → Entrance net e j → Exit net x i → Walk net x j k → (n < 1) ⊎ (200 < n) → Carries net r (book e x n (refused 35)) r
  book_bad_count j i k en ex w b = idle_carries net r (book e x n (refused 35)) tt (λ h at. inr ((j, en), inr ((i, ex), inr ((k, (j, en, w)), inl (go b, refl)))))
    where
      go : (n < 1) ⊎ (200 < n) → ((1 ≤ n) × (n ≤ 200)) → ⊥
      go (inl c) z = omega (arith, z.0)
      go (inr c) z = omega (arith, z.1)

  pub book_no_place : (j i k : ℕ) → Entrance net e j → Exit net x i → Walk net x j k → 1 ≤ n → n ≤ 200 → 500 < length (r.queue j) + n
      → Carries net r (book e x n (refused 36)) r
  book_no_place j i k en ex w low high b = idle_carries net r (book e x n (refused 36)) tt (λ h at. inr (
    (j, en),
    inr (
      (i, ex),
      inr (
        (k, (j, en, w)),
        inr ((low, high), inl ((λ z. omega (arith, z j en, waits net r e j en h at)), refl)),
      ),
    ),
  ))

-- the refusals of a step, which leave rule and rows as they were
module _ (net : Net) (r : RunNow) (m : Meaning) (rows : List StepRow) where
  pub few_rows : length rows < net.links → Carries net r (step m rows (refused 39) m rows) r
  few_rows l = idle_carries net r (step m rows (refused 39) m rows) tt (λ h at. (inl ((λ e. omega arith), refl), λ k e. (refl, refl)))

  pub too_late : net.links ≤ length rows → 1000000 ≤ r.clock → Carries net r (step m rows (refused 37) m rows) r
  too_late l t = idle_carries net r (step m rows (refused 37) m rows) tt (λ h at. (inr (l, inl ((λ e. omega (arith, at.shows.time)), refl)), λ k e. (refl, refl)))

pub ran_carries : RanCarries
ran_carries net r r' [] h q at = subst (Moment net h) q at
ran_carries net r r' (event ∷ later) h q at = q.2 (later ++ h) (ran_carries net r q.0 later h q.1 at)

-- a run of calls, cut at a moment
pub ran_cut : (net : Net) (r r'' : RunNow) (later h : History) → Ran net r (later ++ h) r'' → (r' : RunNow) × Ran net r h r' × Ran net r' later r''
ran_cut net r r'' [] h q = (r'', q, refl)
ran_cut net r r'' (event ∷ later) h q = let s = ran_cut net r q.0 later h q.1 in (s.0, s.1, (q.0, s.2, q.2))

pub each_moment : EachMoment
each_moment net sound r r'' o h q later h₀ e =
    let s = ran_cut net r r'' later h₀ (subst (λ h. Ran net r h r'') (sym e) q) in
    (s.0, subst (λ k. Moment net k s.0) (append-nil h₀) (ran_carries net r s.0 h₀ [] s.1 (opening_starts net sound r o)), s.2)

-- some calls led to a run just opened, and to one that calls were carried to
pub reached_opened : (net : Net) → Sound net → (r : RunNow) → Opened net r → Reached net r
reached_opened net sound r o = ∣ ([], opening_starts net sound r o) ∣₁

pub reached_ran : (net : Net) (r r' : RunNow) (h : History) → Ran net r h r' → Reached net r → Reached net r'
reached_ran net r r' h q t = ∥∥₁_elim t ∥∥₁_prop (λ p. ∣ (h ++ p.0, ran_carries net r r' h p.0 q p.1) ∣₁)
