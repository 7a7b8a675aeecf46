-- A zip by numbers is the zip vehicle by vehicle.
use Rattle.std.specs.Prelude.{◌≡◌, ℕ, zero, suc, ◌+◌, ◌-◌, ◌<◌, ◌≤◌, min, Bool, true, false, cond, not, List, [], ◌∷◌, length, refl}
use Rattle.std.proofs.Common.{sym, ◌∙◌, ap, arith}
use Rattle.std.proofs.lemmas.Bool.{cond-false}
use Rattle.std.proofs.lemmas.Bool.Decides.{nat_tests}
use Rattle.merge.specs.declared.question.Question.{Question}
use Rattle.merge.specs.declared.alternate.Leg.{Leg}
use Rattle.merge.specs.declared.alternate.Leg.TheVariants.{First, Second}
use Rattle.merge.specs.Rules.{Askable, Proper}
use Rattle.merge.specs.Turns.{order, firsts, seconds, turn_behind, zip_all, own_part, own_last, zip_counts, Alternates, Zips}

-- no vehicle
part_none : (n own others : ℕ) → n ≡ 0 → own_part n own others ≡ 0
part_none n own others e = grind (arith, nat_tests)

last_none : (n own others : ℕ) → n ≡ 0 → own_last n own others ≡ false
last_none n own others e = grind (arith, nat_tests)

-- the leg with the turn has none left
part_lacks : (n others : ℕ) → own_part n 0 others ≡ 0
part_lacks n others = grind (arith, nat_tests)

last_lacks : (n others : ℕ) → own_last n 0 others ≡ false
last_lacks n others = grind (arith, nat_tests)

-- it passes one, and the other has the turn
part_goes : (n own others : ℕ) → n ≤ own + others → own_part (suc n) (suc own) others ≡ n - own_part n others own + 1
part_goes n own others h = grind (arith, nat_tests)

last_goes : (n own others : ℕ) → n ≤ own + others → own_last (suc n) (suc own) others ≡ not (own_last n others own)
last_goes n own others h = grind (arith, nat_tests)

part_le : (n own others : ℕ) → own_part n own others ≤ n
part_le n own others = grind (arith, nat_tests)

-- what an order counts, by numbers
Counts : Leg → ℕ → ℕ → ℕ → List Leg → Type 0
Counts First n s1 s2 legs =
    (firsts legs ≡ own_part n s1 s2) × (seconds legs ≡ n - own_part n s1 s2) × (turn_behind First legs ≡ cond (own_last n s1 s2) Second First)
Counts Second n s1 s2 legs =
    (seconds legs ≡ own_part n s2 s1) × (firsts legs ≡ n - own_part n s2 s1) × (turn_behind Second legs ≡ cond (own_last n s2 s1) First Second)

turned : {A : Type 0} (b : Bool) (x y z : A) → z ≡ cond b x y → z ≡ cond (not b) y x
turned true x y z e = e
turned false x y z e = e

turns : {A : Type 0} (a b : Bool) (x y z : A) → a ≡ not b → z ≡ cond b x y → z ≡ cond a y x
turns a b x y z e f = turned b x y z f ∙ ap (λ c. cond c y x) (sym e)

none_counted : (turn : Leg) (n s1 s2 : ℕ) → n ≡ 0 → Counts turn n s1 s2 []
unfolding Counts
none_counted First n s1 s2 e =
    let p = part_none n s1 s2 e in (omega arith, omega arith, sym (cond-false _ Second First (last_none n s1 s2 e)))
none_counted Second n s1 s2 e =
    let p = part_none n s2 s1 e in (omega arith, omega arith, sym (cond-false _ First Second (last_none n s2 s1 e)))

counts : (r n : ℕ) (turn : Leg) (s1 s2 : ℕ) → n ≡ min (s1 + s2) r → Counts turn n s1 s2 (order r turn s1 s2)
unfolding Counts
counts zero n turn s1 s2 e = none_counted turn n s1 s2 (omega arith)
counts (suc r) zero First (suc s1) s2 e = absurd (omega arith)
counts (suc r) (suc n) First (suc s1) s2 e =
    let k = counts r n Second s1 s2 (omega arith) in
    let h : n ≤ s1 + s2 = omega arith in
    let p = part_goes n s1 s2 h in
    let l = part_le n s2 s1 in
    (omega (arith, k.0, k.1), omega (arith, k.0, k.1), turns _ _ _ _ _ (last_goes n s1 s2 h) k.2)
counts (suc r) zero First zero (suc s2) e = absurd (omega arith)
counts (suc r) (suc n) First zero (suc s2) e =
    let k = counts r n First zero s2 (omega arith) in
    let p = part_lacks (suc n) (suc s2) in
    let o = part_lacks n s2 in
    (omega (arith, k.0), omega (arith, k.1), k.2 ∙ cond-false _ _ _ (last_lacks n s2) ∙ sym (cond-false _ Second First (last_lacks (suc n) (suc s2))))
counts (suc r) n First zero zero e = none_counted First n zero zero (omega arith)
counts (suc r) zero Second s1 (suc s2) e = absurd (omega arith)
counts (suc r) (suc n) Second s1 (suc s2) e =
    let k = counts r n First s1 s2 (omega arith) in
    let h : n ≤ s2 + s1 = omega arith in
    let p = part_goes n s2 s1 h in
    let l = part_le n s1 s2 in
    (omega (arith, k.0, k.1), omega (arith, k.0, k.1), turns _ _ _ _ _ (last_goes n s2 s1 h) k.2)
counts (suc r) zero Second (suc s1) zero e = absurd (omega arith)
counts (suc r) (suc n) Second (suc s1) zero e =
    let k = counts r n Second s1 zero (omega arith) in
    let p = part_lacks (suc n) (suc s1) in
    let o = part_lacks n s1 in
    (omega (arith, k.0), omega (arith, k.1), k.2 ∙ cond-false _ _ _ (last_lacks n s1) ∙ sym (cond-false _ First Second (last_lacks (suc n) (suc s1))))
counts (suc r) n Second zero zero e = none_counted Second n zero zero (omega arith)

-- an order alternates, and is as long as vehicles or places allow
alternates : (r : ℕ) (turn : Leg) (s1 s2 : ℕ) → Alternates turn s1 s2 (order r turn s1 s2)
alternates zero turn s1 s2 = Alternates.end
alternates (suc r) First (suc s1) s2 = Alternates.first_goes (alternates r Second s1 s2)
alternates (suc r) First zero (suc s2) = Alternates.first_lacks (alternates r First zero s2)
alternates (suc r) First zero zero = Alternates.end
alternates (suc r) Second s1 (suc s2) = Alternates.second_goes (alternates r First s1 s2)
alternates (suc r) Second (suc s1) zero = Alternates.second_lacks (alternates r Second s1 zero)
alternates (suc r) Second zero zero = Alternates.end

-- there is one such order of each length
one_order : {turn : Leg} {s1 s2 : ℕ} {a b : List Leg} → Alternates turn s1 s2 a → Alternates turn s1 s2 b → length a ≡ length b → a ≡ b
one_order Alternates.end Alternates.end e = refl
one_order Alternates.end (Alternates.first_goes y) e = absurd (omega arith)
one_order Alternates.end (Alternates.first_lacks y) e = absurd (omega arith)
one_order Alternates.end (Alternates.second_goes y) e = absurd (omega arith)
one_order Alternates.end (Alternates.second_lacks y) e = absurd (omega arith)
one_order (Alternates.first_goes x) Alternates.end e = absurd (omega arith)
one_order (Alternates.first_lacks x) Alternates.end e = absurd (omega arith)
one_order (Alternates.second_goes x) Alternates.end e = absurd (omega arith)
one_order (Alternates.second_lacks x) Alternates.end e = absurd (omega arith)
one_order (Alternates.first_goes x) (Alternates.first_goes y) e = ap (λ legs. First ∷ legs) (one_order x y (omega arith))
one_order (Alternates.first_lacks x) (Alternates.first_lacks y) e = ap (λ legs. Second ∷ legs) (one_order x y (omega arith))
one_order (Alternates.second_goes x) (Alternates.second_goes y) e = ap (λ legs. Second ∷ legs) (one_order x y (omega arith))
one_order (Alternates.second_lacks x) (Alternates.second_lacks y) e = ap (λ legs. First ∷ legs) (one_order x y (omega arith))

order_full : (r : ℕ) (turn : Leg) (s1 s2 : ℕ) → length (order r turn s1 s2) ≡ min (s1 + s2) r
order_full zero turn s1 s2 = omega arith
order_full (suc r) First (suc s1) s2 = omega (arith, order_full r Second s1 s2)
order_full (suc r) First zero (suc s2) = omega (arith, order_full r First zero s2)
order_full (suc r) First zero zero = omega arith
order_full (suc r) Second s1 (suc s2) = omega (arith, order_full r First s1 s2)
order_full (suc r) Second (suc s1) zero = omega (arith, order_full r Second s1 zero)
order_full (suc r) Second zero zero = omega arith

module _ (n own others : ℕ) (h : n ≤ own + others) where
  -- neither leg passes more than it has
  part_has : own_part n own others ≤ own
  part_has = grind (arith, nat_tests)

  rest_has : n - own_part n own others ≤ others
  rest_has = grind (arith, nat_tests)

  -- while both have some left, neither is ahead by more than one
  part_even : own_part n own others < own → n - own_part n own others < others → own_part n own others ≤ n - own_part n own others + 1
  part_even a b = grind (arith, nat_tests)

  rest_even : own_part n own others < own → n - own_part n own others < others → n - own_part n own others ≤ own_part n own others + 1
  rest_even a b = grind (arith, nat_tests)

pub zip_by_numbers : (turn : Leg) (q : Question) → zip_counts turn (min (q.s1 + q.s2) q.r) q ≡ zip_all turn q
unfolding Counts
zip_by_numbers First q = let k = counts q.r _ First q.s1 q.s2 refl in cc (k.0, k.1, k.2)
zip_by_numbers Second q = let k = counts q.r _ Second q.s1 q.s2 refl in cc (k.0, k.1, k.2)

pub zips : (turn : Leg) (q : Question) → Zips turn q (zip_all turn q)
unfolding Counts
zips First q =
    let n : ℕ = min (q.s1 + q.s2) q.r in
    let h : n ≤ q.s1 + q.s2 = omega arith in
    let k = counts q.r n First q.s1 q.s2 refl in record {
      legs = order q.r First q.s1 q.s2;
      alternates = alternates q.r First q.s1 q.s2;
      full = order_full q.r First q.s1 q.s2;
      only = λ others a e. one_order a (alternates q.r First q.s1 q.s2) e;
      first = refl;
      second = refl;
      next = refl;
      first_even = λ a b. omega (arith, k.0, k.1, part_even n q.s1 q.s2 h (omega (arith, k.0)) (omega (arith, k.1)));
      second_even = λ a b. omega (arith, k.0, k.1, rest_even n q.s1 q.s2 h (omega (arith, k.0)) (omega (arith, k.1)));
    }
zips Second q =
    let n : ℕ = min (q.s1 + q.s2) q.r in
    let h : n ≤ q.s2 + q.s1 = omega arith in
    let k = counts q.r n Second q.s1 q.s2 refl in record {
      legs = order q.r Second q.s1 q.s2;
      alternates = alternates q.r Second q.s1 q.s2;
      full = order_full q.r Second q.s1 q.s2;
      only = λ others a e. one_order a (alternates q.r Second q.s1 q.s2) e;
      first = refl;
      second = refl;
      next = refl;
      first_even = λ a b. omega (arith, k.0, k.1, rest_even n q.s2 q.s1 h (omega (arith, k.0)) (omega (arith, k.1)));
      second_even = λ a b. omega (arith, k.0, k.1, part_even n q.s2 q.s1 h (omega (arith, k.0)) (omega (arith, k.1)));
    }

-- neither leg passes more than it has, and all places are taken that can be
pub zip_proper : (turn : Leg) (q : Question) → Askable q → Proper (65535, 65535) q ((zip_all turn q).g1, (zip_all turn q).g2)
unfolding Counts
zip_proper First q a =
    let n : ℕ = min (q.s1 + q.s2) q.r in
    let h : n ≤ q.s1 + q.s2 = omega arith in
    let k = counts q.r n First q.s1 q.s2 refl in
    let e = part_le n q.s1 q.s2 in
    let p = part_has n q.s1 q.s2 h in
    let o = rest_has n q.s1 q.s2 h in
    record { first = omega (arith, k.0); second = omega (arith, k.1); full = omega (arith, k.0, k.1) }
zip_proper Second q a =
    let n : ℕ = min (q.s1 + q.s2) q.r in
    let h : n ≤ q.s2 + q.s1 = omega arith in
    let k = counts q.r n Second q.s1 q.s2 refl in
    let e = part_le n q.s2 q.s1 in
    let p = part_has n q.s2 q.s1 h in
    let o = rest_has n q.s2 q.s1 h in
    record { first = omega (arith, k.1); second = omega (arith, k.0); full = omega (arith, k.0, k.1) }
