-- Rules that keep a state at each node.
use Rattle.std.specs.Prelude.{ℕ, ◌-◌, Bool, cond, ◌&&◌, List, [], ◌∷◌, nat_le, nat_lt, slice_index_or}
use Rattle.merge.specs.declared.question.Question.{Question}
use Rattle.merge.specs.Rules.{Meaning}

-- How many nodes there are: they are numbered from 1.
abbrev pub nodes : ℕ
nodes = 32

abbrev pub inside : ℕ → Bool
inside n = nat_lt 0 n && nat_le n nodes

-- What a list with a place for each node has at a node, and `d` where there is no such node.
abbrev pub at_node : {X : Type 0} → X → List X → ℕ → X
at_node d xs n = cond (inside n) (slice_index_or xs (n - 1) d) d

-- The state behind some questions.
abbrev pub behind : {S : Type 0} → (S → Question → S) → S → List Question → S
behind next s [] = s
behind next s (q ∷ past) = behind next (next s q) past

-- The meaning of a rule by its limits, its answer in a state, the state that a question leaves, and
-- the states at the nodes. Outside the nodes a state stays.
abbrev pub machine : {S : Type 0} → (ℕ → ℕ → ℕ × ℕ) → (S → Question → ℕ × ℕ) → (S → Question → S) → (ℕ → S) → Meaning
machine limits answer next states = record {
  limits = limits;
  splits = λ n past q. answer (behind (λ s x. cond (inside n) (next s x) s) (states n) past) q;
}
