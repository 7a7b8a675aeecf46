-- What passes at a merge, told from the leg whose turn it is.
use Rattle.std.proofs.Common.{◌≡◌, ℕ, ◌-◌, cond}
use Rattle.merge.specs.declared.question.Question.{Question}
use Rattle.merge.specs.declared.alternate.Leg.{Leg}
use Rattle.merge.specs.declared.alternate.Leg.TheVariants.{First, Second}
use Rattle.merge.specs.Turns.{other, in_order, own_part, own_last, zip_counts}

pub from_the_turn : (leg turn : Leg) (n p : ℕ) (q : Question) (own g : ℕ × ℕ)
    → own ≡ in_order leg (q.s1, q.s2) → p ≡ own_part n own.0 own.1 → turn ≡ cond (own_last n own.0 own.1) (other leg) leg → g ≡ in_order leg (p, n - p)
    → zip_counts leg n q ≡ record { g1 = g.0; g2 = g.1; turn = turn }
from_the_turn First turn n p q own g o e t f = cc
from_the_turn Second turn n p q own g o e t f = cc
