-- The first of a list.
use Rattle.std.proofs.Common.{◌≡◌, ℕ, List, [], ◌∷◌, ◌++◌, take, drop, Some, sym, ap, ◌∙◌, arith}
use Rattle.std.proofs.lemmas.List.{same_lists, places}
use Rattle.line.specs.Ring.{first, rest}
use Rattle.newell.specs.declared.records.Vehicle.{Vehicle}
use Rattle.flow.specs.Flows.{leader}

pub led : (vs : List Vehicle) (v : Vehicle) → Some v ≡ first vs → (v ≡ leader vs) × (vs ≡ v ∷ rest vs)
led [] v e = let z : ◌≡◌ {A = ℕ} 0 1 = cc in absurd (omega arith)
led (w ∷ ws) v e = let z : v ≡ w = cc in (z, ap (λ u. u ∷ ws) (sym z))

cancel : (us bs cs : List Vehicle) → us ++ bs ≡ us ++ cs → bs ≡ cs
cancel [] bs cs e = e
cancel (a ∷ us) bs cs e = let z : us ++ bs ≡ us ++ cs = cc in cancel us bs cs z

take_drop : (n : ℕ) (xs : List Vehicle) → take n xs ++ drop n xs ≡ xs
take_drop n xs = same_lists _ _ (grind (arith, places)) (λ k d h. grind (arith, places))

-- what is left behind the first n
pub front : (n : ℕ) (xs ys : List Vehicle) → xs ≡ take n xs ++ ys → ys ≡ drop n xs
front n xs ys e = cancel (take n xs) ys (drop n xs) (sym e ∙ sym (take_drop n xs))
