-- The ramp meter: what it makes of the meaning below it.
use Rattle.std.specs.Prelude.{◌≡◌, ℕ, ◌%◌, ◌≤◌, min, cond, ◌&&◌, map, Some, None, Option, ◌==◌, ◌≢◌}
use Rattle.merge.specs.declared.question.Question.{Question}
use Rattle.merge.specs.declared.gate.Gate.{Gate}
use Rattle.merge.specs.declared.gates.Gates.{Gates}
use Rattle.merge.specs.Bounds.{cut_by}
use Rattle.merge.specs.Rules.{Meaning}
use Rattle.merge.specs.States.{inside, at_node}

-- The gates at the nodes.
abbrev pub gates_of : Gates → ℕ → Option Gate
gates_of gates = at_node None gates.at.at

abbrev pub no_gates : ℕ → Option Gate
no_gates n = None

-- The gates with one more at a node; where there is no such node, the gates that there are.
abbrev pub with_gate : (ℕ → Option Gate) → ℕ → Gate → ℕ → Option Gate
with_gate gates node gate n = cond (inside node && n == node) (Some gate) (gates n)

-- The second limit at a clock, where the limit below is `l`.
abbrev pub cut_limit : Option Gate → ℕ → ℕ → ℕ
cut_limit None clock l = l
cut_limit (Some g) clock l = cut_by g.rate g.period clock l

abbrev pub meter_limits : (ℕ → Option Gate) → (ℕ → ℕ → ℕ × ℕ) → ℕ → ℕ → ℕ × ℕ
meter_limits gates below node clock = ((below node clock).0, cut_limit (gates node) clock (below node clock).1)

-- A question with the second leg's vehicles cut to `l`.
abbrev pub cut_to : ℕ → Question → Question
cut_to l q = record { clock = q.clock; s1 = q.s1; s2 = min q.s2 l; r = q.r; q1 = q.q1; q2 = q.q2 }

-- What a question at a node is passed on as.
abbrev pub passed_on : (ℕ → Option Gate) → (ℕ → ℕ → ℕ × ℕ) → ℕ → Question → Question
passed_on gates below node q = cut_to (meter_limits gates below node q.clock).1 q

abbrev pub metered : (ℕ → Option Gate) → Meaning → Meaning
metered gates m = record {
  limits = meter_limits gates m.limits;
  splits = λ n past q. m.splits n (map (passed_on gates m.limits n) past) (passed_on gates m.limits n q);
}

-- The law of the meter: where a node has a gate, at a clock that is a multiple of its period no more than
-- its rate pass of the second leg, and at any other clock none.
pub record HeldBy (gate : Gate) (clock passed : ℕ) : Type 0 where
  pub green : clock % gate.period ≡ 0 → passed ≤ gate.rate
  pub red : (clock % gate.period ≢ 0) → passed ≡ 0

abbrev pub Held : Option Gate → ℕ → ℕ → Type 0
Held None clock passed = Unit {0}
Held (Some gate) clock passed = HeldBy gate clock passed
