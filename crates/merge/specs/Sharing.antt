-- `fair`: the legs share the places by their capacities.
use Rattle.std.specs.Prelude.{◌≡◌, ℕ, ◌+◌, ◌-◌, ◌*◌, ◌/◌, ◌≤◌, min, cond, nat_le}
use Rattle.merge.specs.declared.question.Question.{Question}
use Rattle.merge.specs.Rules.{Meaning, alike}

-- The first leg's share of `r` places by the capacities, the fraction dropped; none if both are 0.
abbrev pub share1 : ℕ → ℕ → ℕ → ℕ
share1 r q1 q2 = r * q1 / (q1 + q2)

-- The split of `q` where the first leg's share of the places is `share` and the second's is the rest.
abbrev pub split_by : ℕ → Question → ℕ × ℕ
split_by share q =
    cond (nat_le (q.s1 + q.s2) q.r) (q.s1, q.s2)
    (cond (nat_le q.s1 share) (q.s1, q.r - q.s1)
    (cond (nat_le q.s2 (q.r - share)) (q.r - q.s2, q.s2)
    (share, q.r - share)))

abbrev pub fair_split : Question → ℕ × ℕ
fair_split q = split_by (share1 q.r q.q1 q.q2) q

abbrev pub fair_meaning : Meaning
fair_meaning = alike fair_split

-- A split in which each leg has its share: it passes at least the lesser of what it has and its share,
-- and no more than it has; and no place is wasted.
pub record ByShares (share : ℕ) (q : Question) (g : ℕ × ℕ) : Type 0 where
  pub first : min q.s1 share ≤ g.0
  pub second : min q.s2 (q.r - share) ≤ g.1
  pub first_has : g.0 ≤ q.s1
  pub second_has : g.1 ≤ q.s2
  pub full : g.0 + g.1 ≡ min (q.s1 + q.s2) q.r

-- The law of `fair`.
abbrev pub Fairly : Question → ℕ × ℕ → Type 0
Fairly q g = ByShares (share1 q.r q.q1 q.q2) q g
