-- `zip`: the legs pass one vehicle each in turn.
use Rattle.std.specs.Prelude.{◌≡◌, ℕ, zero, suc, ◌+◌, ◌-◌, ◌/◌, ◌%◌, ◌<◌, ◌≤◌, min, Bool, true, false, cond, List, [], ◌∷◌, length, ◌==◌, nat_lt}
use Rattle.merge.specs.declared.question.Question.{Question}
use Rattle.merge.specs.declared.alternate.Leg.{Leg}
use Rattle.merge.specs.declared.alternate.Leg.TheVariants.{First, Second}
use Rattle.merge.specs.declared.alternate.Zipped.{Zipped}
use Rattle.merge.specs.Rules.{Meaning, no_limit}
use Rattle.merge.specs.States.{machine, at_node}

-- The order in which up to `r` vehicles pass where the legs have `s1` and `s2`: of the leg whose turn it
-- is, or of the other if that one has none left.
abbrev pub order : ℕ → Leg → ℕ → ℕ → List Leg
order zero turn s1 s2 = []
order (suc r) First (suc s1) s2 = First ∷ order r Second s1 s2
order (suc r) First zero (suc s2) = Second ∷ order r First zero s2
order (suc r) First zero zero = []
order (suc r) Second s1 (suc s2) = Second ∷ order r First s1 s2
order (suc r) Second (suc s1) zero = First ∷ order r Second s1 zero
order (suc r) Second zero zero = []

-- How many of each leg are in an order.
abbrev pub firsts : List Leg → ℕ
firsts [] = 0
firsts (First ∷ legs) = firsts legs + 1
firsts (Second ∷ legs) = firsts legs

abbrev pub seconds : List Leg → ℕ
seconds [] = 0
seconds (First ∷ legs) = seconds legs
seconds (Second ∷ legs) = seconds legs + 1

abbrev pub other : Leg → Leg
other First = Second
other Second = First

-- Of two things, the first leg's and the second's, this leg's and the other's.
abbrev pub in_order : Leg → ℕ × ℕ → ℕ × ℕ
in_order First p = p
in_order Second p = (p.1, p.0)

-- The turn behind an order: that of the leg which did not pass the last vehicle, and where none passed
-- the turn that it was.
abbrev pub turn_behind : Leg → List Leg → Leg
turn_behind turn [] = turn
turn_behind turn (leg ∷ legs) = turn_behind (other leg) legs

abbrev pub zipped : Leg → List Leg → Zipped
zipped turn legs = record { g1 = firsts legs; g2 = seconds legs; turn = turn_behind turn legs }

abbrev pub zip_all : Leg → Question → Zipped
zip_all turn q = zipped turn (order q.r turn q.s1 q.s2)

abbrev pub zip_split : Leg → Question → ℕ × ℕ
zip_split turn q = ((zip_all turn q).g1, (zip_all turn q).g2)

-- The meaning where the turns at the nodes are these. A new rule has the first leg's turn everywhere.
abbrev pub zip_meaning : (ℕ → Leg) → Meaning
zip_meaning turns = machine no_limit zip_split (λ turn q. (zip_all turn q).turn) turns

abbrev pub turns_of : List Leg → ℕ → Leg
turns_of turns = at_node First turns

abbrev pub new_zip : Meaning
new_zip = zip_meaning (λ n. First)

-- The same by numbers. Of `n` vehicles the leg with the turn passes the half, rounded up, unless it has
-- fewer, or the other has fewer than the rest.
abbrev pub own_part : ℕ → ℕ → ℕ → ℕ
own_part n own others = cond (nat_lt own (n - n / 2)) own (cond (nat_lt others (n / 2)) (n - others) (n - n / 2))

-- Whether the leg with the turn passes the last of them.
abbrev pub own_last : ℕ → ℕ → ℕ → Bool
own_last n own others = cond (nat_lt own (n - n / 2)) false (cond (nat_lt others (n / 2)) true (n % 2 == 1))

abbrev pub zip_counts : Leg → ℕ → Question → Zipped
zip_counts First n q = record {
  g1 = own_part n q.s1 q.s2;
  g2 = n - own_part n q.s1 q.s2;
  turn = cond (own_last n q.s1 q.s2) Second First;
}
zip_counts Second n q = record {
  g1 = n - own_part n q.s2 q.s1;
  g2 = own_part n q.s2 q.s1;
  turn = cond (own_last n q.s2 q.s1) First Second;
}

-- The legs alternate: each vehicle is of the leg whose turn it is if that has one left, and else of the
-- other; the next turn is that of the leg which did not pass it.
pub data Alternates : Leg → ℕ → ℕ → List Leg → Type 0 where
  end : {turn : Leg} {s1 s2 : ℕ} → Alternates turn s1 s2 []
  first_goes : {s1 s2 : ℕ} {legs : List Leg} → Alternates Second s1 s2 legs → Alternates First (suc s1) s2 (First ∷ legs)
  first_lacks : {s2 : ℕ} {legs : List Leg} → Alternates First zero s2 legs → Alternates First zero (suc s2) (Second ∷ legs)
  second_goes : {s1 s2 : ℕ} {legs : List Leg} → Alternates First s1 s2 legs → Alternates Second s1 (suc s2) (Second ∷ legs)
  second_lacks : {s1 : ℕ} {legs : List Leg} → Alternates Second s1 zero legs → Alternates Second (suc s1) zero (First ∷ legs)

-- The law of `zip`: vehicles pass in the one order in which the legs alternate, as many as there are or
-- as there are places; while both legs have some left, neither is ahead by more than one.
pub record Zips (turn : Leg) (q : Question) (z : Zipped) : Type 0 where
  pub legs : List Leg
  pub alternates : Alternates turn q.s1 q.s2 legs
  pub full : length legs ≡ min (q.s1 + q.s2) q.r
  pub only : (others : List Leg) → Alternates turn q.s1 q.s2 others → length others ≡ length legs → others ≡ legs
  pub first : z.g1 ≡ firsts legs
  pub second : z.g2 ≡ seconds legs
  pub next : z.turn ≡ turn_behind turn legs
  pub first_even : z.g1 < q.s1 → z.g2 < q.s2 → z.g1 ≤ z.g2 + 1
  pub second_even : z.g1 < q.s1 → z.g2 < q.s2 → z.g2 ≤ z.g1 + 1
