-- Worked cases of the rules: what new ones answer.
use Rattle.std.specs.Prelude.{◌≡◌, ℕ, true, List, [], ◌∷◌}
use Rattle.merge.specs.declared.question.Question.{Question}
use Rattle.merge.specs.declared.gate.Gate.{Gate}
use Rattle.merge.specs.declared.choice.Choice.TheVariants.{Fair, Ramp, Zip}
use Rattle.merge.specs.Rules.{Meaning}
use Rattle.merge.specs.States.{inside}
use Rattle.merge.specs.Sharing.{fair_meaning}
use Rattle.merge.specs.Choosing.{fresh_meaning}
use Rattle.merge.specs.Metering.{metered, no_gates, with_gate}

-- The question at a clock of s1, s2, r and the capacities q1, q2.
abbrev pub asked : ℕ → ℕ → ℕ → ℕ → ℕ → ℕ → Question
asked clock s1 s2 r q1 q2 = record { clock = clock; s1 = s1; s2 = s2; r = r; q1 = q1; q2 = q2 }

-- What a rule answers first at a node.
abbrev pub first : Meaning → ℕ → Question → ℕ × ℕ
first m node q = m.splits node [] q

-- `fair` under a meter with one gate.
abbrev pub fair_behind : ℕ → Gate → Meaning
fair_behind node gate = metered (with_gate no_gates node gate) fair_meaning

pub record WorkedCases : Type 0 where
  pub fair_full : (n t : ℕ) → first (fresh_meaning Fair) n (asked t 4 2 3 4 2) ≡ (2, 1)
  pub fair_two : (n t : ℕ) → first (fresh_meaning Fair) n (asked t 2 1 2 4 2) ≡ (1, 1)
  pub fair_short : (n t : ℕ) → first (fresh_meaning Fair) n (asked t 1 5 3 4 2) ≡ (1, 2)
  pub fair_one : (n t : ℕ) → first (fresh_meaning Fair) n (asked t 5 5 1 1 1) ≡ (0, 1)
  pub ramp_full : (n t q1 q2 : ℕ) → first (fresh_meaning Ramp) n (asked t 4 2 3 q1 q2) ≡ (1, 2)
  pub zip_full : (n t q1 q2 : ℕ) → first (fresh_meaning Zip) n (asked t 4 2 3 q1 q2) ≡ (2, 1)
  pub zip_lacks : (n t q1 q2 : ℕ) → first (fresh_meaning Zip) n (asked t 0 3 2 q1 q2) ≡ (0, 2)
  pub meter_red : (n : ℕ) (g : Gate) → inside n ≡ true → g.rate ≡ 1 → g.period ≡ 3 → first (fair_behind n g) n (asked 1 4 2 3 4 2) ≡ (3, 0)
  pub meter_green : (n : ℕ) (g : Gate) → inside n ≡ true → g.rate ≡ 1 → g.period ≡ 3 → first (fair_behind n g) n (asked 3 4 2 3 4 2) ≡ (2, 1)

-- The answers in the same order.
abbrev pub worked_answers : List (ℕ × ℕ)
worked_answers = (2, 1) ∷ (1, 1) ∷ (1, 2) ∷ (0, 1) ∷ (1, 2) ∷ (2, 1) ∷ (0, 2) ∷ (3, 0) ∷ (2, 1) ∷ []
