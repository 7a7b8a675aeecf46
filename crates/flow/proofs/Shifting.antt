-- Those that come from entrances, and then those that come from links.
use Rattle.std.proofs.Common.{◌≡◌, ℕ, zero, suc, ◌+◌, ◌<◌, ◌≤◌, cond, List, [], ◌++◌, length, get_or, take, drop, Some, sym, refl, ap, ◌∙◌, subst, ap₂, ⊎_elim, append_assoc, append-nil, arith, length-append, le-ltb, lt-ltb}
use lib.Seq.{take-append-le, drop-append-le}
use Rattle.std.proofs.lemmas.List.{get_or_append_left}
use Rattle.std.proofs.lemmas.Bool.{cases_lt}
use Rattle.newell.specs.declared.records.Vehicle.{Vehicle}
use Rattle.network.specs.Net.{Net, next}
use Rattle.newell.specs.History.{final}
use Rattle.links.specs.declared.records.Yard.{Yard}
use Rattle.line.specs.Spots.{written}
use Rattle.line.proofs.Writing.{written_append}
use Rattle.links.specs.Yards.{holds, spots_of, size_of}
use Rattle.links.proofs.Spacing.{beyond_more}
use Rattle.flow.specs.Flows.{going, stamped, exits, nobody, lasted, came_by, up_to, SentAll, Sendable, PulledAll, Shifted, Shiftable}
use Rattle.flow.proofs.Going.{stamped_append, stamped_none, stamped_length, going_nobody}
use Rattle.flow.proofs.Pulling.{exits_length, exits_nil}

came_ext : (net : Net) (on on' : ℕ → List Vehicle) (k : ℕ → ℕ) (n j : ℕ) → ((i : ℕ) → i < n → take (k i) (on i) ≡ take (k i) (on' i)) → came_by net on k n j ≡ came_by net on' k n j
came_ext net on on' k zero j h = refl
came_ext net on on' k (suc n) j h = ap₂ ◌++◌ (came_ext net on on' k n j (λ i l. h i (omega arith))) (ap (going net n j) (h n (omega arith)))

came_nobody : (net : Net) (on : ℕ → List Vehicle) (k : ℕ → ℕ) (n j : ℕ) → ((i x : ℕ) → i < n → next net i x ≡ Some j → ⊥) → came_by net on k n j ≡ []
came_nobody net on k zero j h = refl
came_nobody net on k (suc n) j h = ap₂ ◌++◌ (came_nobody net on k n j (λ i x l. h i x (omega arith))) (going_nobody net n j (take (k n) (on n)) (λ x. h n x (omega arith)))

module _ (net : Net) (t : ℕ) (r k : ℕ → ℕ) (y y₁ : Yard) (few : net.links ≤ 48) (ask : Shiftable net t r k y) (p : PulledAll t r net.links y y₁)
    (inside : (i x j : ℕ) → i < net.links → next net i x ≡ Some j → j < net.links)
    (fit : (l : ℕ) → l < 96 → length (holds y₁ l) ≤ size_of y₁ l) where
  all_up : (j : ℕ) → j < net.links → up_to net.links j (r j) ≡ r j
  all_up j l = ap (λ b. cond b (r j) 0) (lt-ltb j net.links l)

  come : (j : ℕ) → j < net.links → holds y₁ j ≡ holds y j ++ stamped t (exits (take (r j) (holds y (48 + j))))
  come j l = p.on j (omega arith) ∙ ap (λ n. holds y j ++ stamped t (exits (take n (holds y (48 + j))))) (all_up j l)

  come_spots : (j : ℕ) → j < net.links → spots_of y₁ j ≡ written (spots_of y j) (stamped t (exits (take (r j) (holds y (48 + j)))))
  come_spots j l = p.spots j (omega arith) ∙ ap (λ n. written (spots_of y j) (stamped t (exits (take n (holds y (48 + j)))))) (all_up j l)

  none_up : (j : ℕ) → net.links ≤ j → (n : ℕ) → up_to net.links j n ≡ 0
  none_up j l n = ap (λ b. cond b n 0) (le-ltb j net.links l)

  -- those that come from an entrance where there is no link
  none_come : (j : ℕ) → net.links ≤ j → stamped t (exits (take (up_to net.links j (r j)) (holds y (48 + j)))) ≡ []
  none_come j l = stamped_none t _ (ap (λ n. exits (take n (holds y (48 + j)))) (none_up j l (r j)) ∙ exits_nil)

  -- and those that come from links
  none_came : (j : ℕ) → net.links ≤ j → stamped t (came_by net (holds y₁) k net.links j) ≡ []
  none_came j l = stamped_none t _ (came_nobody net (holds y₁) k net.links j (λ i x a e. (let z = inside i x j a e in omega arith)))

  pub first_kept : (i : ℕ) → i < net.links → take (k i) (holds y₁ i) ≡ take (k i) (holds y i)
  first_kept i l = ap (take (k i)) (come i l) ∙ take-append-le (k i) (holds y i) _ (ask.enough i l)

  came_kept : (j : ℕ) → came_by net (holds y₁) k net.links j ≡ came_by net (holds y) k net.links j
  came_kept j = came_ext net (holds y₁) (holds y) k net.links j first_kept

  pub sendable : Sendable net t k y₁
  sendable = record {
    enough = λ i l. omega (arith, ask.enough i l, ap length (come i l), length-append (holds y i) (stamped t (exits (take (r i) (holds y (48 + i))))));
    past = λ i q l h. subst (λ (v : Vehicle). v.since ≤ t) (sym (ap (λ (vs : List Vehicle). get_or vs q nobody) (come i l) ∙ get_or_append_left (holds y i) _ nobody q (omega (arith, ask.enough i l)))) (ask.past i q l h);
    room = λ j l. ⊎_elim
        (λ (h : j < net.links). omega (arith, ask.room j h, ap length (came_kept j), ap length (come j h), length-append (holds y j) (stamped t (exits (take (r j) (holds y (48 + j))))), stamped_length t (exits (take (r j) (holds y (48 + j)))), exits_length (take (r j) (holds y (48 + j))), p.sizes j))
        (λ (h : net.links ≤ j). omega (arith, ap length (came_nobody net (holds y₁) k net.links j (λ i x a e. (let z = inside i x j a e in omega arith))), fit j l))
        (cases_lt j net.links);
  }

  pub shifted : (y₂ : Yard) → SentAll net t k net.links y₁ y₂ → Shifted net t r k y y₂
  shifted y₂ s = record {
    cars = λ j l. s.to j (omega arith)
        ∙ ap₂ (λ n xs. drop n (holds y₁ j) ++ stamped t xs) (ap (λ b. cond b (k j) 0) (lt-ltb j net.links l)) (came_kept j)
        ∙ ap (λ (vs : List Vehicle). drop (k j) vs ++ stamped t (came_by net (holds y) k net.links j)) (come j l)
        ∙ ap (λ (vs : List Vehicle). vs ++ stamped t (came_by net (holds y) k net.links j)) (drop-append-le (k j) (holds y j) _ (ask.enough j l))
        ∙ append_assoc (drop (k j) (holds y j)) (stamped t (exits (take (r j) (holds y (48 + j))))) (stamped t (came_by net (holds y) k net.links j))
        ∙ ap (λ (vs : List Vehicle). drop (k j) (holds y j) ++ vs) (sym (stamped_append t (exits (take (r j) (holds y (48 + j)))) (came_by net (holds y) k net.links j)));
    waits = λ j l. still (48 + j) (omega arith) (omega arith) ∙ p.from j (omega arith) ∙ ap (λ n. drop n (holds y (48 + j))) (all_up j l);
    spots = λ j l. s.spots j (omega arith)
        ∙ ap₂ (λ z xs. written z (stamped t xs)) (come_spots j l) (came_kept j)
        ∙ written_append (spots_of y j) (stamped t (exits (take (r j) (holds y (48 + j))))) (stamped t (came_by net (holds y) k net.links j))
        ∙ ap (written (spots_of y j)) (sym (stamped_append t (exits (take (r j) (holds y (48 + j)))) (came_by net (holds y) k net.links j)));
    rests = λ j l. still_spots (48 + j) (omega arith) (omega arith) ∙ p.rests j l;
    beyond = beyond_more y y₁ y₂ p.beyond s.beyond;
    idle = λ j a l. (
      still j a (omega arith) ∙ p.on j l ∙ ap (λ (vs : List Vehicle). holds y j ++ vs) (none_come j a) ∙ append-nil (holds y j),
      still (48 + j) (omega arith) (omega arith) ∙ p.from j l ∙ ap (λ n. drop n (holds y (48 + j))) (none_up j a (r j)),
      still_spots j a (omega arith) ∙ p.spots j l ∙ ap (written (spots_of y j)) (none_come j a),
    );
    sizes = λ l. s.sizes l ∙ p.sizes l;
    gauges = λ l. s.gauges l ∙ p.gauges l;
    laid = s.laid;
    same = s.same ∙ p.same;
  }
    where
      -- lanes of no link neither send nor get any
      still : (j : ℕ) → net.links ≤ j → j < 96 → holds y₂ j ≡ holds y₁ j
      still j a l = s.to j l ∙ ap₂ (λ n xs. drop n (holds y₁ j) ++ xs) (none_up j a (k j)) (none_came j a) ∙ append-nil (holds y₁ j)

      still_spots : (j : ℕ) → net.links ≤ j → j < 96 → spots_of y₂ j ≡ spots_of y₁ j
      still_spots j a l = s.spots j l ∙ ap (written (spots_of y₁ j)) (none_came j a)

  pub times_kept : (i : ℕ) → i < net.links → lasted t (final (take (k i) (holds y₁ i))) ≡ lasted t (final (take (k i) (holds y i)))
  times_kept i l = ap (λ vs. lasted t (final vs)) (first_kept i l)
