-- What one more vehicle that goes on makes of the lanes.
use Rattle.std.proofs.Common.{◌≡◌, ℕ, zero, suc, ◌+◌, ◌-◌, ◌<◌, ◌≤◌, eqb, ◌≢◌, List, [], ◌∷◌, ◌++◌, length, get_or, take, Some, None, Option, sym, refl, ap, ◌∙◌, subst, ap₂, ⊎_elim, append_assoc, append-nil, add-one, arith, length-append, ne_eqb}
use Rattle.std.proofs.lemmas.List.{take_more, get_or-append_right, length-take-le}
use Rattle.std.proofs.lemmas.Bool.{cases_eq, cond-false}
use Rattle.line.specs.Ring.{first, rest}
use Rattle.newell.specs.declared.records.Vehicle.{Vehicle}
use Rattle.network.specs.Net.{Net, next}
use Rattle.newell.specs.History.{final}
use Rattle.links.specs.declared.records.Yard.{Yard}
use Rattle.line.specs.Spots.{wrote, written}
use Rattle.line.proofs.Writing.{written_append}
use Rattle.links.specs.Yards.{holds, spots_of, size_of, Put}
use Rattle.links.proofs.Keeping.{laid_of}
use Rattle.links.proofs.Spacing.{beyond_none, beyond_more}
use Rattle.flow.specs.Flows.{going, taking, stamped, nobody, leader, lasted, time_of, Came, Gone, Sent}
use Rattle.flow.proofs.Fronts.{led}
use Rattle.flow.proofs.Going.{stamped_append, stamped_none, stamped_one, stamped_length, going_nil, going_append, going_one, taking_some, taking_not, room_one}

module _ (net : Net) (t i : ℕ) where
  pub gone_none : (x : ℕ) (y : Yard) → None ≡ next net i x → Gone net t i x y y
  gone_none x y e = record {
    to = λ j l. let no : next net i x ≡ Some j → ⊥ = λ f. (let z : ◌≡◌ {A = ℕ} 0 1 = cc in omega arith) in
        sym (ap (λ vs. holds y j ++ vs) (stamped_none t _ (taking_not net i j x no)) ∙ append-nil (holds y j));
    spots = λ j l. let no : next net i x ≡ Some j → ⊥ = λ f. (let z : ◌≡◌ {A = ℕ} 0 1 = cc in omega arith) in
        sym (ap (written (spots_of y j)) (stamped_none t _ (taking_not net i j x no)));
    beyond = beyond_none y;
    sizes = λ l. refl;
    gauges = λ l. refl;
    laid = laid_of y;
    same = refl;
  }

  pub gone_some : (x j : ℕ) (y y' : Yard) → Some j ≡ next net i x → Put y y' j (holds y j ++ record { exit = x; since = t + 1 } ∷ [])
      → spots_of y' j ≡ wrote (spots_of y j) (record { exit = x; since = t + 1 }) → Gone net t i x y y'
  gone_some x j y y' e p w = record {
    spots = λ l h. ⊎_elim
        (λ (q : l ≡ j). subst (λ k. spots_of y' k ≡ written (spots_of y k) (stamped t (taking net i k x))) (sym q)
        (w ∙ ap (written (spots_of y j)) (sym (stamped_one t x _ (taking_some net i j x (sym e))))))
        (λ (q : l ≢ j). let no : next net i x ≡ Some l → ⊥ = λ f. (let z : j ≡ l = cc in q (sym z)) in
        p.spots l h q ∙ sym (ap (written (spots_of y l)) (stamped_none t _ (taking_not net i l x no))))
        (cases_eq l j);
    beyond = p.beyond;
    to = λ l h. ⊎_elim
        (λ (q : l ≡ j). subst (λ k. holds y' k ≡ holds y k ++ stamped t (taking net i k x)) (sym q)
        (p.here ∙ ap (λ vs. holds y j ++ vs) (sym (stamped_one t x _ (taking_some net i j x (sym e))))))
        (λ (q : l ≢ j). let no : next net i x ≡ Some l → ⊥ = λ f. (let z : j ≡ l = cc in q (sym z)) in
        p.others l h q ∙ sym (ap (λ vs. holds y l ++ vs) (stamped_none t _ (taking_not net i l x no)) ∙ append-nil (holds y l)))
        (cases_eq l j);
    sizes = p.sizes;
    gauges = p.gauges;
    laid = p.laid;
    same = p.same;
  }

  pub gone_of : (x : ℕ) (y y' : Yard) (o : Option ℕ) → o ≡ next net i x → Came o t x y y' → Gone net t i x y y'
  gone_of x y y' None e c = subst (λ z. Gone net t i x y z) (sym c) (gone_none x y e)
  gone_of x y y' (Some j) e c = gone_some x j y y' e c.0 c.1

  pub leads : (vs : List Vehicle) (v : Vehicle) → Some v ≡ first vs → v ≡ leader vs
  leads vs v e = (led vs v e).0

  pub sent_one : (y y₁ y₂ : Yard) (v : Vehicle) → i < 96 → Some v ≡ first (holds y i) → Put y y₁ i (rest (holds y i)) → spots_of y₁ i ≡ spots_of y i → Gone net t i v.exit y₁ y₂
      → (next net i (leader (holds y i)).exit ≡ Some i → ⊥) → Sent net t i (leader (holds y i) ∷ []) y y₂
  sent_one y y₁ y₂ v b e p u g bar = record {
    stay = g.spots i b ∙ ap (written (spots_of y₁ i)) nobody_back ∙ u;
    spots = λ j l ne. g.spots j l ∙ ap₂ (λ s zs. written s zs) (p.spots j l ne) (ap (stamped t) (ap (taking net i j) x ∙ sym (going_one net i j (leader (holds y i)))));
    beyond = beyond_more y y₁ y₂ p.beyond g.beyond;
    from = (led (holds y i) v e).1 ∙ ap₂ {C = List Vehicle} (λ u ws. u ∷ ws) q (sym p.here ∙ sym stay);
    to = λ j l ne. g.to j l ∙ ap₂ (λ ws zs. ws ++ zs) (p.others j l ne) (ap (stamped t) (ap (taking net i j) x ∙ sym (going_one net i j (leader (holds y i)))));
    sizes = λ l. g.sizes l ∙ p.sizes l;
    gauges = λ l. g.gauges l ∙ p.gauges l;
    laid = g.laid;
    same = g.same ∙ p.same;
  }
    where
      q : v ≡ leader (holds y i)
      q = (led (holds y i) v e).0

      x : v.exit ≡ (leader (holds y i)).exit
      x = ap (λ (u : Vehicle). u.exit) q

      nobody_back : stamped t (taking net i i v.exit) ≡ []
      nobody_back = stamped_none t _ (taking_not net i i v.exit (λ f. bar (ap (next net i) (sym x) ∙ f)))

      stay : holds y₂ i ≡ holds y₁ i
      stay = g.to i b ∙ ap (λ ws. holds y₁ i ++ ws) nobody_back ∙ append-nil (holds y₁ i)

  pub sent_none : (y : Yard) → Sent net t i [] y y
  sent_none y = record {
    from = refl;
    to = λ j l ne. sym (ap (λ vs. holds y j ++ vs) (stamped_none t _ (going_nil net i j)) ∙ append-nil (holds y j));
    stay = refl;
    spots = λ j l ne. sym (ap (written (spots_of y j)) (stamped_none t _ (going_nil net i j)));
    beyond = beyond_none y;
    sizes = λ l. refl;
    gauges = λ l. refl;
    laid = laid_of y;
    same = refl;
  }

  pub sent_more : (y y₁ y₂ : Yard) (vs ws : List Vehicle) → Sent net t i vs y y₁ → Sent net t i ws y₁ y₂ → Sent net t i (vs ++ ws) y y₂
  sent_more y y₁ y₂ vs ws a b = record {
    from = a.from ∙ ap (λ us. vs ++ us) b.from ∙ sym (append_assoc vs ws (holds y₂ i));
    to = λ j l ne. b.to j l ne ∙ ap (λ us. us ++ stamped t (going net i j ws)) (a.to j l ne)
        ∙ append_assoc (holds y j) (stamped t (going net i j vs)) (stamped t (going net i j ws))
        ∙ ap (λ us. holds y j ++ us) (sym (stamped_append t (going net i j vs) (going net i j ws)) ∙ ap (stamped t) (sym (going_append net i j vs ws)));
    stay = b.stay ∙ a.stay;
    spots = λ j l ne. b.spots j l ne ∙ ap (λ s. written s (stamped t (going net i j ws))) (a.spots j l ne)
        ∙ written_append (spots_of y j) (stamped t (going net i j vs)) (stamped t (going net i j ws))
        ∙ ap (written (spots_of y j)) (sym (stamped_append t (going net i j vs) (going net i j ws)) ∙ ap (stamped t) (sym (going_append net i j vs ws)));
    beyond = beyond_more y y₁ y₂ a.beyond b.beyond;
    sizes = λ l. b.sizes l ∙ a.sizes l;
    gauges = λ l. b.gauges l ∙ a.gauges l;
    laid = b.laid;
    same = b.same ∙ a.same;
  }

  -- the state of the loop, with m of the first n gone
  module _ (y y₁ : Yard) (m n : ℕ) (low : m < n) (high : n ≤ length (holds y i)) (s : Sent net t i (take m (holds y i)) y y₁) where
    wide : length (take m (holds y i)) ≡ m
    wide = length-take-le m (holds y i) (omega arith)

    pub left_leader : leader (holds y₁ i) ≡ get_or (holds y i) m nobody
    left_leader = sym (ap (λ (vs : List Vehicle). get_or vs m nobody) s.from ∙ get_or-append_right (take m (holds y i)) (holds y₁ i) m m nobody wide (omega arith) ∙ ap (λ k. get_or (holds y₁ i) k nobody) (omega arith))

    pub left_room : (j : ℕ) → j < 96 → j ≢ i → next net i (leader (holds y₁ i)).exit ≡ Some j
        → length (holds y j) + length (going net i j (take n (holds y i))) ≤ size_of y j → length (holds y₁ j) < size_of y₁ j
    left_room j l ne e r =
        let f = ap (λ (v : Vehicle). next net i v.exit) (sym left_leader) ∙ e in
        let a = ap length (s.to j l ne) ∙ length-append (holds y j) (stamped t (going net i j (take m (holds y i)))) in
        omega (arith, r, s.sizes j, a, stamped_length t (going net i j (take m (holds y i))), room_one net i j (holds y i) m n low high f)

    pub sent_again : (y₂ : Yard) → Sent net t i (leader (holds y₁ i) ∷ []) y₁ y₂ → Sent net t i (take (m + 1) (holds y i)) y y₂
    sent_again y₂ a = subst (λ vs. Sent net t i vs y y₂) (ap (λ v. take m (holds y i) ++ v ∷ []) left_leader ∙ sym (take_more (holds y i) m nobody (omega arith))) (sent_more y y₁ y₂ (take m (holds y i)) (leader (holds y₁ i) ∷ []) s a)

  final_last : (vs : List Vehicle) (v : Vehicle) → final (vs ++ v ∷ []) ≡ Some v
  final_last [] v = refl
  final_last (w ∷ []) v = refl
  final_last (w ∷ u ∷ us) v = final_last (u ∷ us) v

  -- the time of the nth is that of the last of the first n
  pub last_is : (xs : List Vehicle) (n : ℕ) → n ≤ length xs → time_of t n xs ≡ lasted t (final (take n xs))
  last_is xs zero h = refl
  last_is xs (suc m) h =
      let e : take (suc m) xs ≡ take m xs ++ get_or xs m nobody ∷ [] = ap (λ k. take k xs) (sym (add-one m)) ∙ take_more xs m nobody (omega arith) in
      let no : suc m ≢ 0 = omega arith in
      let d : suc m - 1 ≡ m = omega arith in
      cond-false (eqb (suc m) 0) None (Some (t + 1 - (get_or xs (suc m - 1) nobody).since)) (ne_eqb (suc m) 0 no)
      ∙ ap (λ k. Some (t + 1 - (get_or xs k nobody).since)) d
      ∙ ap (lasted t) (sym (ap final e ∙ final_last (take m xs) (get_or xs m nobody)))
