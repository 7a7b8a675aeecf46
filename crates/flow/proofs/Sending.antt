-- What one more link that sends makes of the lanes.
use Rattle.std.proofs.Common.{◌≡◌, ℕ, zero, suc, ◌+◌, ◌-◌, ◌<◌, ◌≤◌, cond, ltb, ◌≢◌, List, [], ◌++◌, length, get_or, take, drop, Some, sym, refl, ap, ◌∙◌, subst, ap₂, ⊎_elim, append_assoc, append-nil, suc-add, zero-add, add-one, arith, length-append, length-drop, le-ltb, lt-ltb}
use lib.Seq.{take-append-le, drop-append-le}
use Rattle.std.proofs.lemmas.List.{get_or_append_left, length-take-le, same_lists, places}
use Rattle.std.proofs.lemmas.Bool.{cases_eq, cases_lt}
use Rattle.newell.specs.declared.records.Vehicle.{Vehicle}
use Rattle.network.specs.Net.{Net, next}
use Rattle.newell.specs.History.{final}
use Rattle.links.specs.declared.records.Yard.{Yard}
use Rattle.line.specs.Spots.{written}
use Rattle.line.proofs.Writing.{written_append}
use Rattle.links.specs.Yards.{holds, spots_of, size_of}
use Rattle.links.proofs.Keeping.{laid_of}
use Rattle.links.proofs.Spacing.{beyond_none, beyond_more}
use Rattle.flow.specs.Flows.{going, stamped, nobody, lasted, Sent, came_by, up_to, SentAll, Sendable}
use Rattle.flow.proofs.Going.{stamped_append, stamped_none, stamped_length, going_nobody}

pub came_grows : (net : Net) (on : ℕ → List Vehicle) (k : ℕ → ℕ) (j i d : ℕ) → length (came_by net on k i j) ≤ length (came_by net on k (d + i) j)
came_grows net on k j i zero = rw zero-add (omega arith)
came_grows net on k j i (suc d) = rw suc-add (let h = came_grows net on k j i d in
    omega (arith, h, length-append (came_by net on k (d + i) j) (going net (d + i) j (take (k (d + i)) (on (d + i))))))

module _ (net : Net) (t : ℕ) (k : ℕ → ℕ) where
  pub all_none : (y : Yard) → SentAll net t k 0 y y
  all_none y = record {
    to = λ j l. let e : up_to 0 j (k j) ≡ 0 = ap (λ b. cond b (k j) 0) (le-ltb j 0 (omega arith)) in
        sym (ap₂ (λ n vs. drop n (holds y j) ++ vs) e (stamped_none t [] refl) ∙ append-nil (holds y j));
    spots = λ j l. sym (ap (written (spots_of y j)) (stamped_none t [] refl));
    beyond = beyond_none y;
    sizes = λ l. refl;
    gauges = λ l. refl;
    laid = laid_of y;
    same = refl;
  }

  module _ (y y₁ : Yard) (i : ℕ) (few : net.links ≤ 96) (low : i < net.links) (ask : Sendable net t k y) (s : SentAll net t k i y y₁)
      (apart : (x : ℕ) → next net i x ≡ Some i → ⊥) where
    mine : holds y₁ i ≡ holds y i ++ stamped t (came_by net (holds y) k i i)
    mine = s.to i (omega arith) ∙ ap (λ n. drop n (holds y i) ++ stamped t (came_by net (holds y) k i i)) (ap (λ b. cond b (k i) 0) (le-ltb i i (omega arith)))

    pub first_same : take (k i) (holds y₁ i) ≡ take (k i) (holds y i)
    first_same = ap (take (k i)) mine ∙ take-append-le (k i) (holds y i) _ (ask.enough i low)

    pub enough : k i ≤ length (holds y₁ i)
    enough = omega (arith, ask.enough i low, ap length mine, length-append (holds y i) (stamped t (came_by net (holds y) k i i)))

    pub past : (q : ℕ) → q < k i → (get_or (holds y₁ i) q nobody).since ≤ t
    past q h = subst (λ (v : Vehicle). v.since ≤ t) (sym (ap (λ (vs : List Vehicle). get_or vs q nobody) mine ∙ get_or_append_left (holds y i) _ nobody q (omega (arith, ask.enough i low)))) (ask.past i q low h)

    pub room : (j : ℕ) → j < 96 → length (holds y₁ j) + length (going net i j (take (k i) (holds y₁ i))) ≤ size_of y₁ j
    room j l =
        let a = ap length (s.to j l) ∙ length-append (drop (up_to i j (k j)) (holds y j)) (stamped t (came_by net (holds y) k i j)) in
        let b = length-drop (up_to i j (k j)) (holds y j) in
        let c = ap (λ vs. length (going net i j vs)) first_same in
        let e : (net.links - (i + 1)) + suc i ≡ net.links = omega arith in
        let g = subst (λ n. length (came_by net (holds y) k (suc i) j) ≤ length (came_by net (holds y) k n j)) e (came_grows net (holds y) k j (suc i) (net.links - (i + 1))) in
        let w = length-append (came_by net (holds y) k i j) (going net i j (take (k i) (holds y i))) in
        omega (arith, a, b, c, g, w, stamped_length t (came_by net (holds y) k i j), s.sizes j, ask.room j l)

    pub time_same : lasted t (final (take (k i) (holds y₁ i))) ≡ lasted t (final (take (k i) (holds y i)))
    time_same = ap (λ vs. lasted t (final vs)) first_same

    module _ (y₂ : Yard) (d : Sent net t i (take (k i) (holds y₁ i)) y₁ y₂) where
      front : (n : ℕ) (xs ys : List Vehicle) → n ≤ length xs → xs ≡ take n xs ++ ys → ys ≡ drop n xs
      front n xs ys h e = same_lists _ _ (let w = ap length e in let v = length-append (take n xs) ys in let u = length-take-le n xs h in simp length-drop (omega arith))
          (λ q z l. let f = ap (λ (zs : List Vehicle). get_or zs (n + q) z) e in grind (arith, places))

      none_own : came_by net (holds y) k i i ≡ came_by net (holds y) k (suc i) i
      none_own = sym (ap (λ ys. came_by net (holds y) k i i ++ ys) (going_nobody net i i (take (k i) (holds y i)) apart) ∙ append-nil (came_by net (holds y) k i i))

      own : holds y₂ i ≡ drop (k i) (holds y i) ++ stamped t (came_by net (holds y) k (suc i) i)
      own = front (k i) (holds y₁ i) (holds y₂ i) enough d.from ∙ ap (drop (k i)) mine ∙ drop-append-le (k i) (holds y i) _ (ask.enough i low)
          ∙ ap (λ xs. drop (k i) (holds y i) ++ stamped t xs) none_own

      own_spots : spots_of y₂ i ≡ written (spots_of y i) (stamped t (came_by net (holds y) k (suc i) i))
      own_spots = d.stay ∙ s.spots i (omega arith) ∙ ap (λ xs. written (spots_of y i) (stamped t xs)) none_own

      their_spots : (j : ℕ) → j < 96 → j ≢ i → spots_of y₂ j ≡ written (spots_of y j) (stamped t (came_by net (holds y) k (suc i) j))
      their_spots j l ne = d.spots j l ne ∙ ap₂ (λ z vs. written z (stamped t (going net i j vs))) (s.spots j l) first_same
          ∙ written_append (spots_of y j) (stamped t (came_by net (holds y) k i j)) (stamped t (going net i j (take (k i) (holds y i))))
          ∙ ap (written (spots_of y j)) (sym (stamped_append t (came_by net (holds y) k i j) (going net i j (take (k i) (holds y i)))))

      theirs : (j : ℕ) → j < 96 → j ≢ i → holds y₂ j ≡ drop (up_to i j (k j)) (holds y j) ++ stamped t (came_by net (holds y) k (suc i) j)
      theirs j l ne = d.to j l ne ∙ ap₂ (λ us vs. us ++ stamped t (going net i j vs)) (s.to j l) first_same
          ∙ append_assoc (drop (up_to i j (k j)) (holds y j)) (stamped t (came_by net (holds y) k i j)) _
          ∙ ap (λ us. drop (up_to i j (k j)) (holds y j) ++ us) (sym (stamped_append t (came_by net (holds y) k i j) (going net i j (take (k i) (holds y i)))))

      below : (j : ℕ) → j ≢ i → ltb j i ≡ ltb j (suc i)
      below j ne = ⊎_elim (λ (h : j < i). lt-ltb j i h ∙ sym (lt-ltb j (suc i) (omega arith))) (λ (h : i ≤ j). le-ltb j i h ∙ sym (le-ltb j (suc i) (omega (arith, ne)))) (cases_lt j i)

      pub all_more : SentAll net t k (i + 1) y y₂
      all_more = rw add-one (record {
        to = λ j l. ⊎_elim
            (λ (e : j ≡ i). subst (λ q. holds y₂ q ≡ drop (up_to (suc i) q (k q)) (holds y q) ++ stamped t (came_by net (holds y) k (suc i) q)) (sym e)
            (own ∙ ap (λ n. drop n (holds y i) ++ stamped t (came_by net (holds y) k (suc i) i)) (sym (ap (λ b. cond b (k i) 0) (lt-ltb i (suc i) (omega arith))))))
            (λ (ne : j ≢ i). theirs j l ne ∙ ap (λ b. drop (cond b (k j) 0) (holds y j) ++ stamped t (came_by net (holds y) k (suc i) j)) (below j ne))
            (cases_eq j i);
        spots = λ j l. ⊎_elim
            (λ (e : j ≡ i). subst (λ q. spots_of y₂ q ≡ written (spots_of y q) (stamped t (came_by net (holds y) k (suc i) q))) (sym e) own_spots)
            (λ (ne : j ≢ i). their_spots j l ne)
            (cases_eq j i);
        beyond = beyond_more y y₁ y₂ s.beyond d.beyond;
        sizes = λ l. d.sizes l ∙ s.sizes l;
        gauges = λ l. d.gauges l ∙ s.gauges l;
        laid = d.laid;
        same = d.same ∙ s.same;
      })
