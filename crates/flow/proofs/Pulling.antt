-- Vehicles that come on from an entrance.
use Rattle.std.proofs.Common.{◌≡◌, ℕ, ◌+◌, ◌<◌, ◌≤◌, min, cond, ◌≢◌, List, [], ◌∷◌, ◌++◌, length, get_or, take, drop, Some, sym, refl, ap, ◌∙◌, subst, ap₂, ⊎_elim, append_assoc, append-nil, arith, length-append, length-take, le-ltb, lt-ltb}
use mathlib.Core.List.{map-append}
use lib.ListN.{length-map}
use Rattle.std.proofs.lemmas.List.{take_more, get_or-append_right, length-take-le, same_lists, places}
use Rattle.std.proofs.lemmas.Bool.{cases_eq, cases_lt}
use Rattle.line.specs.Ring.{first, rest}
use Rattle.newell.specs.declared.records.Vehicle.{Vehicle}
use Rattle.links.specs.declared.records.Yard.{Yard}
use Rattle.line.specs.Spots.{wrote, written}
use Rattle.line.proofs.Writing.{written_append}
use Rattle.links.specs.Yards.{holds, spots_of, size_of, Put}
use Rattle.links.proofs.Keeping.{laid_of}
use Rattle.links.proofs.Spacing.{beyond_none, beyond_more}
use Rattle.flow.specs.Flows.{stamped, exits, nobody, leader, up_to, Pulled, PulledAll}
use Rattle.flow.proofs.Going.{stamped_append, stamped_none, stamped_one, stamped_length}
use Rattle.flow.proofs.Fronts.{led, front}

pub exits_append : (vs ws : List Vehicle) → exits (vs ++ ws) ≡ exits vs ++ exits ws
unfolding exits
exits_append vs ws = map-append (λ v. v.exit) vs ws

pub exits_nil : exits [] ≡ []
unfolding exits
exits_nil = refl

exits_one : (v : Vehicle) → exits (v ∷ []) ≡ v.exit ∷ []
unfolding exits
exits_one v = refl

pub exits_length : (vs : List Vehicle) → length (exits vs) ≡ length vs
unfolding exits
exits_length vs = simp length-map

module _ (t j : ℕ) (b : j < 48) where
  pub pulled_one : (y y₁ y₂ : Yard) (v : Vehicle) → Some v ≡ first (holds y (48 + j)) → Put y y₁ (48 + j) (rest (holds y (48 + j))) → spots_of y₁ (48 + j) ≡ spots_of y (48 + j)
      → Put y₁ y₂ j (holds y₁ j ++ record { exit = v.exit; since = t + 1 } ∷ []) → spots_of y₂ j ≡ wrote (spots_of y₁ j) (record { exit = v.exit; since = t + 1 }) → Pulled t j (leader (holds y (48 + j)) ∷ []) y y₂
  pulled_one y y₁ y₂ v e p w q w' =
      let x = led (holds y (48 + j)) v e in
      let n : 48 + j ≢ j = omega arith in
      let n' : j ≢ 48 + j = omega arith in
      record {
        from = x.1 ∙ ap₂ {C = List Vehicle} (λ u ws. u ∷ ws) x.0 (sym p.here ∙ sym (q.others (48 + j) (omega arith) n));
        on = q.here ∙ ap₂ (λ us ws. us ++ ws) (p.others j (omega arith) n') (sym (stamped_one t v.exit _ (exits_one (leader (holds y (48 + j))) ∙ ap (λ (u : Vehicle). u.exit ∷ []) (sym x.0))));
        others = λ l h a c. q.others l h a ∙ p.others l h c;
        spots = w' ∙ ap₂ (λ s ws. written s ws) (p.spots j (omega arith) n') (sym (stamped_one t v.exit _ (exits_one (leader (holds y (48 + j))) ∙ ap (λ (u : Vehicle). u.exit ∷ []) (sym x.0))));
        rests = λ l h a. q.spots l h a ∙ ⊎_elim (λ (z : l ≡ 48 + j). subst (λ k. spots_of y₁ k ≡ spots_of y k) (sym z) w) (λ (c : l ≢ 48 + j). p.spots l h c) (cases_eq l (48 + j));
        beyond = beyond_more y y₁ y₂ p.beyond q.beyond;
        sizes = λ l. q.sizes l ∙ p.sizes l;
        gauges = λ l. q.gauges l ∙ p.gauges l;
        laid = q.laid;
        same = q.same ∙ p.same;
      }

  pub pulled_none : (y : Yard) → Pulled t j [] y y
  pulled_none y = record {
    from = refl;
    on = sym (ap (λ vs. holds y j ++ vs) (stamped_none t _ exits_nil) ∙ append-nil (holds y j));
    others = λ l h a c. refl;
    spots = sym (ap (written (spots_of y j)) (stamped_none t _ exits_nil));
    rests = λ l h a. refl;
    beyond = beyond_none y;
    sizes = λ l. refl;
    gauges = λ l. refl;
    laid = laid_of y;
    same = refl;
  }

  pulled_more : (y y₁ y₂ : Yard) (vs ws : List Vehicle) → Pulled t j vs y y₁ → Pulled t j ws y₁ y₂ → Pulled t j (vs ++ ws) y y₂
  pulled_more y y₁ y₂ vs ws p q = record {
    from = p.from ∙ ap (λ us. vs ++ us) q.from ∙ sym (append_assoc vs ws (holds y₂ (48 + j)));
    on = q.on ∙ ap (λ us. us ++ stamped t (exits ws)) p.on ∙ append_assoc (holds y j) (stamped t (exits vs)) (stamped t (exits ws))
        ∙ ap (λ us. holds y j ++ us) (sym (stamped_append t (exits vs) (exits ws)) ∙ ap (stamped t) (sym (exits_append vs ws)));
    others = λ l h a c. q.others l h a c ∙ p.others l h a c;
    spots = q.spots ∙ ap (λ s. written s (stamped t (exits ws))) p.spots ∙ written_append (spots_of y j) (stamped t (exits vs)) (stamped t (exits ws))
        ∙ ap (written (spots_of y j)) (sym (stamped_append t (exits vs) (exits ws)) ∙ ap (stamped t) (sym (exits_append vs ws)));
    rests = λ l h a. q.rests l h a ∙ p.rests l h a;
    beyond = beyond_more y y₁ y₂ p.beyond q.beyond;
    sizes = λ l. q.sizes l ∙ p.sizes l;
    gauges = λ l. q.gauges l ∙ p.gauges l;
    laid = q.laid;
    same = q.same ∙ p.same;
  }

  module _ (y y₁ : Yard) (m n : ℕ) (low : m < n) (high : n ≤ length (holds y (48 + j))) (s : Pulled t j (take m (holds y (48 + j))) y y₁) where
    wide : length (take m (holds y (48 + j))) ≡ m
    wide = length-take-le m (holds y (48 + j)) (omega arith)

    pub pull_room : length (holds y j) + n ≤ size_of y j → length (holds y₁ j) < size_of y₁ j
    pull_room r = omega (arith, r, s.sizes j, ap length s.on, length-append (holds y j) (stamped t (exits (take m (holds y (48 + j))))), stamped_length t (exits (take m (holds y (48 + j)))), exits_length (take m (holds y (48 + j))), wide)

    lead : leader (holds y₁ (48 + j)) ≡ get_or (holds y (48 + j)) m nobody
    lead = sym (ap (λ (vs : List Vehicle). get_or vs m nobody) s.from ∙ get_or-append_right (take m (holds y (48 + j))) (holds y₁ (48 + j)) m m nobody wide (omega arith) ∙ ap (λ k. get_or (holds y₁ (48 + j)) k nobody) (omega arith))

    pub pulled_again : (y₂ : Yard) → Pulled t j (leader (holds y₁ (48 + j)) ∷ []) y₁ y₂ → Pulled t j (take (m + 1) (holds y (48 + j))) y y₂
    pulled_again y₂ a = subst (λ vs. Pulled t j vs y y₂) (ap (λ v. take m (holds y (48 + j)) ++ v ∷ []) lead ∙ sym (take_more (holds y (48 + j)) m nobody (omega arith))) (pulled_more y y₁ y₂ (take m (holds y (48 + j))) (leader (holds y₁ (48 + j)) ∷ []) s a)

module _ (t : ℕ) (k : ℕ → ℕ) where
  zero_up : (j : ℕ) → up_to 0 j (k j) ≡ 0
  zero_up j = ap (λ b. cond b (k j) 0) (le-ltb j 0 (omega arith))

  pub pulls_none : (y : Yard) → PulledAll t k 0 y y
  pulls_none y = record {
    from = λ j l. sym (ap (λ n. drop n (holds y (48 + j))) (zero_up j));
    on = λ j l. sym (ap (λ vs. holds y j ++ vs) (stamped_none t _ (ap (λ n. exits (take n (holds y (48 + j)))) (zero_up j) ∙ exits_nil)) ∙ append-nil (holds y j));
    spots = λ j l. sym (ap (written (spots_of y j)) (stamped_none t _ (ap (λ n. exits (take n (holds y (48 + j)))) (zero_up j) ∙ exits_nil)));
    rests = λ j l. refl;
    beyond = beyond_none y;
    sizes = λ l. refl;
    gauges = λ l. refl;
    laid = laid_of y;
    same = refl;
  }

  module _ (y y₁ : Yard) (i : ℕ) (b : i < 48) (s : PulledAll t k i y y₁) where
    here : up_to i i (k i) ≡ 0
    here = ap (λ b. cond b (k i) 0) (le-ltb i i (omega arith))

    pub waits_same : holds y₁ (48 + i) ≡ holds y (48 + i)
    waits_same = s.from i b ∙ ap (λ n. drop n (holds y (48 + i))) here

    pub cars_same : holds y₁ i ≡ holds y i
    cars_same = s.on i b ∙ ap (λ vs. holds y i ++ vs) (stamped_none t _ (ap (λ n. exits (take n (holds y (48 + i)))) here ∙ exits_nil)) ∙ append-nil (holds y i)

    spots_same : spots_of y₁ i ≡ spots_of y i
    spots_same = s.spots i b ∙ ap (written (spots_of y i)) (stamped_none t _ (ap (λ n. exits (take n (holds y (48 + i)))) here ∙ exits_nil))

    pub pull_fits : (n w : ℕ) → w ≡ length (holds y₁ (48 + i)) → n ≡ min w (k i) → length (holds y i) + length (take (k i) (holds y (48 + i))) ≤ size_of y i → length (holds y₁ i) + n ≤ size_of y₁ i
    pull_fits n w e f r = omega (arith, ap length cars_same, ap length waits_same, s.sizes i, length-take (k i) (holds y (48 + i)))

    take_min : (xs : List Vehicle) (n w : ℕ) → w ≡ length xs → n ≡ min w (k i) → take n xs ≡ take (k i) xs
    take_min xs n w e f = same_lists _ _ (simp length-take (omega arith)) (λ q d h. grind (arith, places))

    below : (j : ℕ) → j ≢ i → up_to i j (k j) ≡ up_to (i + 1) j (k j)
    below j ne = ap (λ b. cond b (k j) 0) (⊎_elim (λ (h : j < i). lt-ltb j i h ∙ sym (lt-ltb j (i + 1) (omega arith))) (λ (h : i ≤ j). le-ltb j i h ∙ sym (le-ltb j (i + 1) (omega (arith, ne)))) (cases_lt j i))

    above : k i ≡ up_to (i + 1) i (k i)
    above = sym (ap (λ b. cond b (k i) 0) (lt-ltb i (i + 1) (omega arith)))

    pub pulls_more : (y₂ : Yard) (n w : ℕ) → w ≡ length (holds y₁ (48 + i)) → n ≡ min w (k i) → Pulled t i (take n (holds y₁ (48 + i))) y₁ y₂ → PulledAll t k (i + 1) y y₂
    pulls_more y₂ n w e f p = record {
      from = λ j l. ⊎_elim
          (λ (q : j ≡ i). subst (λ z. holds y₂ (48 + z) ≡ drop (up_to (i + 1) z (k z)) (holds y (48 + z))) (sym q) gone)
          (λ (ne : j ≢ i). p.others (48 + j) (omega arith) (omega arith) (omega (arith, ne)) ∙ s.from j l ∙ ap (λ n. drop n (holds y (48 + j))) (below j ne))
          (cases_eq j i);
      on = λ j l. ⊎_elim
          (λ (q : j ≡ i). subst (λ z. holds y₂ z ≡ holds y z ++ stamped t (exits (take (up_to (i + 1) z (k z)) (holds y (48 + z))))) (sym q) come)
          (λ (ne : j ≢ i). p.others j (omega arith) ne (omega arith) ∙ s.on j l ∙ ap (λ n. holds y j ++ stamped t (exits (take n (holds y (48 + j))))) (below j ne))
          (cases_eq j i);
      spots = λ j l. ⊎_elim
          (λ (q : j ≡ i). subst (λ z. spots_of y₂ z ≡ written (spots_of y z) (stamped t (exits (take (up_to (i + 1) z (k z)) (holds y (48 + z)))))) (sym q)
          (p.spots ∙ ap₂ (λ z ws. written z (stamped t (exits ws))) spots_same same))
          (λ (ne : j ≢ i). p.rests j (omega arith) ne ∙ s.spots j l ∙ ap (λ n. written (spots_of y j) (stamped t (exits (take n (holds y (48 + j)))))) (below j ne))
          (cases_eq j i);
      rests = λ j l. p.rests (48 + j) (omega arith) (omega arith) ∙ s.rests j l;
      beyond = beyond_more y y₁ y₂ s.beyond p.beyond;
      sizes = λ l. p.sizes l ∙ s.sizes l;
      gauges = λ l. p.gauges l ∙ s.gauges l;
      laid = p.laid;
      same = p.same ∙ s.same;
    }
      where
        same : take n (holds y₁ (48 + i)) ≡ take (up_to (i + 1) i (k i)) (holds y (48 + i))
        same = take_min (holds y₁ (48 + i)) n w e f ∙ ap₂ (λ n (vs : List Vehicle). take n vs) above waits_same

        come : holds y₂ i ≡ holds y i ++ stamped t (exits (take (up_to (i + 1) i (k i)) (holds y (48 + i))))
        come = p.on ∙ ap₂ (λ us ws. us ++ stamped t (exits ws)) cars_same same

        gone : holds y₂ (48 + i) ≡ drop (up_to (i + 1) i (k i)) (holds y (48 + i))
        gone = front (up_to (i + 1) i (k i)) (holds y (48 + i)) (holds y₂ (48 + i)) (sym waits_same ∙ p.from ∙ ap (λ us. us ++ holds y₂ (48 + i)) same)
