-- What a merge rule means, whatever its type, and the law that every rule keeps.
use Rattle.std.specs.Prelude.{◌≡◌, ℕ, ◌+◌, ◌^◌, ◌<◌, ◌≤◌, min, cond, List, ◌∷◌, ◌==◌}
use Rattle.std.specs.List.{AllByRecursion}
use Rattle.merge.specs.declared.question.Question.{Question}

-- The limits that a rule tells at a node and a clock, and the split that it answers at a node behind
-- the questions that were asked there before, the oldest first.
pub record Meaning : Type 0 where
  pub limits : ℕ → ℕ → ℕ × ℕ
  pub splits : ℕ → List Question → Question → ℕ × ℕ

-- The meaning behind one question more at a node: there the question is past, elsewhere nothing changed.
abbrev pub after : Meaning → ℕ → Question → Meaning
after m node q = record {
  limits = m.limits;
  splits = λ n past. m.splits n (cond (n == node) (q ∷ past) past);
}

-- The numbers of a question fit their types.
pub record Askable (q : Question) : Type 0 where
  pub clock : q.clock < 2 ^ 32
  pub s1 : q.s1 ≤ 65535
  pub s2 : q.s2 ≤ 65535
  pub r : q.r ≤ 65535
  pub q1 : q.q1 ≤ 65535
  pub q2 : q.q2 ≤ 65535

-- A split `g` of `q` under the limits `l`: neither leg passes more than it has or than its limit, and no
-- place is wasted.
pub record Proper (l : ℕ × ℕ) (q : Question) (g : ℕ × ℕ) : Type 0 where
  pub first : g.0 ≤ min q.s1 l.0
  pub second : g.1 ≤ min q.s2 l.1
  pub full : g.0 + g.1 ≡ min (min q.s1 l.0 + min q.s2 l.1) q.r

-- Every split of a meaning is proper under the limits that it tells, and these fit their type.
pub record Lawful (m : Meaning) : Type 0 where
  pub splits : (node : ℕ) (past : List Question) (q : Question) → node < 2 ^ 16 → AllByRecursion Askable past → Askable q
      → Proper (m.limits node q.clock) q (m.splits node past q)
  pub first_limit : (node clock : ℕ) → node < 2 ^ 16 → clock < 2 ^ 32 → (m.limits node clock).0 ≤ 65535
  pub second_limit : (node clock : ℕ) → node < 2 ^ 16 → clock < 2 ^ 32 → (m.limits node clock).1 ≤ 65535

-- The limits of a rule that has none.
abbrev pub no_limit : ℕ → ℕ → ℕ × ℕ
no_limit node clock = (65535, 65535)

-- A rule that answers every question alike, whatever was asked before.
abbrev pub alike : (Question → ℕ × ℕ) → Meaning
alike split = record { limits = no_limit; splits = λ node past. split }
