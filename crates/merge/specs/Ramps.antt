-- `ramp`: the second leg, the ramp, goes first.
use Rattle.std.specs.Prelude.{◌≡◌, ℕ, ◌-◌, min}
use Rattle.merge.specs.declared.question.Question.{Question}
use Rattle.merge.specs.Rules.{Meaning, alike}

abbrev pub ramp_split : Question → ℕ × ℕ
ramp_split q = (min q.s1 (q.r - min q.s2 q.r), min q.s2 q.r)

abbrev pub ramp_meaning : Meaning
ramp_meaning = alike ramp_split

-- The law of `ramp`: as many of the second leg pass as can, and of the first as many as the places
-- that are left take.
pub record RampFirst (q : Question) (g : ℕ × ℕ) : Type 0 where
  pub second : g.1 ≡ min q.s2 q.r
  pub first : g.0 ≡ min q.s1 (q.r - g.1)
