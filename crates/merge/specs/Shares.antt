-- A share is within the places, and a split by shares is proper.
use Rattle.std.specs.Prelude.{ℕ, ◌+◌, ◌≤◌}
use Rattle.std.proofs.Math.Nat.{div-le_of_le-mul}
use Rattle.std.proofs.Common.{mul_comm, add-mul, arith}
use Rattle.std.proofs.lemmas.Bool.Decides.{nat_tests}
use Rattle.merge.specs.declared.question.Question.{Question}
use Rattle.merge.specs.Rules.{Proper, Askable}
use Rattle.merge.specs.Sharing.{share1, split_by}

pub share1_le : (r q1 q2 : ℕ) → share1 r q1 q2 ≤ r
share1_le r q1 q2 = div-le_of_le-mul (q1 + q2) (omega (arith, mul_comm r q1, add-mul q1 q2 r))

pub split_by_proper : (share : ℕ) (q : Question) → share ≤ q.r → Askable q → Proper (65535, 65535) q (split_by share q)
split_by_proper share q h k = grind (arith, nat_tests)
