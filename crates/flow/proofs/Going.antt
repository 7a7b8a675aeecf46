-- Who goes where.
use Rattle.std.proofs.Common.{◌≡◌, ℕ, ◌+◌, ◌<◌, ◌≤◌, Bool, true, false, cond, List, [], ◌∷◌, ◌++◌, map, length, get_or, take, drop, Some, None, Option, refl, ap, ◌∙◌, ap₂, arith, length-append, eq-eqb, ne_eqb}
use mathlib.Core.List.{map-append}
use lib.ListN.{length-map}
use Rattle.std.proofs.lemmas.List.Elements.{filter-append}
use Rattle.std.proofs.lemmas.List.{take_more, same_lists, places}
use Rattle.newell.specs.declared.records.Vehicle.{Vehicle}
use Rattle.network.specs.Net.{Net, next, is}
use Rattle.newell.specs.Plain.{towards}
use Rattle.flow.specs.Flows.{going, taking, stamped, nobody}

pub stamped_append : (t : ℕ) (xs ys : List ℕ) → stamped t (xs ++ ys) ≡ stamped t xs ++ stamped t ys
unfolding stamped
stamped_append t xs ys = map-append (λ x. record { exit = x; since = t + 1 }) xs ys

pub stamped_none : (t : ℕ) (xs : List ℕ) → xs ≡ [] → stamped t xs ≡ []
unfolding stamped
stamped_none t xs e = ap (map (λ x. record { exit = x; since = t + 1 })) e

pub stamped_one : (t x : ℕ) (xs : List ℕ) → xs ≡ x ∷ [] → stamped t xs ≡ record { exit = x; since = t + 1 } ∷ []
unfolding stamped
stamped_one t x xs e = ap (map (λ x. record { exit = x; since = t + 1 })) e

pub stamped_length : (t : ℕ) (xs : List ℕ) → length (stamped t xs) ≡ length xs
unfolding stamped
stamped_length t xs = simp length-map

module _ (net : Net) (i j : ℕ) where
  pub going_append : (vs ws : List Vehicle) → going net i j (vs ++ ws) ≡ going net i j vs ++ going net i j ws
  unfolding going
  going_append vs ws = ap (map (λ v. v.exit)) (filter-append (λ v. is (next net i v.exit) j) vs ws) ∙ map-append (λ v. v.exit) (towards net i j vs) (towards net i j ws)

  go : (b : Bool) (v : Vehicle) → map {B = ℕ} (λ v. v.exit) (cond b (v ∷ []) []) ≡ cond b (v.exit ∷ []) []
  go true v = refl
  go false v = refl

  pub going_one : (v : Vehicle) → going net i j (v ∷ []) ≡ taking net i j v.exit
  unfolding going taking
  going_one v = go (is (next net i v.exit) j) v

  is_some : (o : Option ℕ) → o ≡ Some j → is o j ≡ true
  is_some o e = ap (λ p. is p j) e ∙ eq-eqb j j refl

  is_not : (o : Option ℕ) → (o ≡ Some j → ⊥) → is o j ≡ false
  is_not None f = refl
  is_not (Some k) f = ne_eqb k j (λ e. f (ap Some e))

  pub taking_some : (x : ℕ) → next net i x ≡ Some j → taking net i j x ≡ x ∷ []
  unfolding taking
  taking_some x e = ap (λ b. cond b (x ∷ []) []) (is_some (next net i x) e)

  pub taking_not : (x : ℕ) → (next net i x ≡ Some j → ⊥) → taking net i j x ≡ []
  unfolding taking
  taking_not x f = ap (λ b. cond b (x ∷ []) []) (is_not (next net i x) f)

  pub going_nil : going net i j [] ≡ []
  unfolding going
  going_nil = refl

  none_go : (vs : List Vehicle) → ((x : ℕ) → next net i x ≡ Some j → ⊥) → going net i j vs ≡ []
  none_go [] f = going_nil
  none_go (v ∷ vs) f = going_append (v ∷ []) vs ∙ ap₂ ◌++◌ (going_one v ∙ taking_not v.exit (f v.exit)) (none_go vs f)

  pub going_nobody : (vs : List Vehicle) → ((x : ℕ) → next net i x ≡ Some j → ⊥) → going net i j vs ≡ []
  going_nobody = none_go

  pub going_more : (xs : List Vehicle) (m : ℕ) → m < length xs → going net i j (take (m + 1) xs) ≡ going net i j (take m xs) ++ taking net i j (get_or xs m nobody).exit
  going_more xs m l = ap (going net i j) (take_more xs m nobody l) ∙ going_append (take m xs) (get_or xs m nobody ∷ []) ∙ ap (λ ys. going net i j (take m xs) ++ ys) (going_one (get_or xs m nobody))

  split : (xs : List Vehicle) (m n : ℕ) → m ≤ n → take n xs ≡ take m xs ++ drop m (take n xs)
  split xs m n l = same_lists _ _ (grind (arith, places)) (λ k d h. grind (arith, places))

  pub going_prefix : (xs : List Vehicle) (m n : ℕ) → m ≤ n → length (going net i j (take m xs)) ≤ length (going net i j (take n xs))
  going_prefix xs m n l =
      let e = ap length (ap (going net i j) (split xs m n l) ∙ going_append (take m xs) (drop m (take n xs))) in
      omega (arith, e, length-append (going net i j (take m xs)) (going net i j (drop m (take n xs))))

  pub room_one : (xs : List Vehicle) (m n : ℕ) → m < n → n ≤ length xs → next net i (get_or xs m nobody).exit ≡ Some j
      → length (going net i j (take m xs)) < length (going net i j (take n xs))
  room_one xs m n l h e =
      let a = ap length (going_more xs m (omega arith) ∙ ap (λ ys. going net i j (take m xs) ++ ys) (taking_some _ e)) in
      let b = length-append (going net i j (take m xs)) ((get_or xs m nobody).exit ∷ []) in
      omega (arith, a, b, going_prefix xs (m + 1) n (omega arith))
