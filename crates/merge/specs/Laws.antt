-- The rules are lawful, and a lawful meaning goes on lawful.
use Rattle.std.specs.Prelude.{ℕ, Bool, true, false, cond, List, ◌∷◌, ◌==◌}
use Rattle.std.proofs.Common.{arith}
use Rattle.std.specs.List.{AllByRecursion}
use Rattle.merge.specs.declared.question.Question.{Question}
use Rattle.merge.specs.Rules.{Meaning, after, Lawful, Proper, Askable, alike}
use Rattle.merge.specs.Sharing.{fair_meaning}
use Rattle.merge.specs.Ramps.{ramp_meaning}
use Rattle.merge.specs.declared.alternate.Leg.{Leg}
use Rattle.merge.specs.declared.choice.Chosen.{Chosen}
use Rattle.merge.specs.declared.choice.Chosen.TheVariants.{ByFair, ByRamp, ByZip}
use Rattle.merge.specs.Turns.{zip_meaning, turns_of}
use Rattle.merge.specs.Choosing.{chosen_meaning}
use Rattle.merge.specs.Zips.{zip_proper}
use Rattle.merge.specs.Shares.{share1_le, split_by_proper}

-- a rule that answers every question alike is lawful if each of its splits is proper
pub alike_lawful : (split : Question → ℕ × ℕ) → ((q : Question) → Askable q → Proper (65535, 65535) q (split q)) → Lawful (alike split)
alike_lawful split h = record {
  splits = λ node past q hn hp hq. h q hq;
  first_limit = λ node clock hn hc. omega arith;
  second_limit = λ node clock hn hc. omega arith;
}

pub fair_lawful : Lawful fair_meaning
fair_lawful = alike_lawful _ (λ q hq. split_by_proper _ q (share1_le q.r q.q1 q.q2) hq)

pub ramp_lawful : Lawful ramp_meaning
ramp_lawful = alike_lawful _ (λ q hq. record { first = omega arith; second = omega arith; full = omega arith })

pub zip_lawful : (turns : ℕ → Leg) → Lawful (zip_meaning turns)
zip_lawful turns = record {
  splits = λ node past q hn hp hq. zip_proper _ q hq;
  first_limit = λ node clock hn hc. omega arith;
  second_limit = λ node clock hn hc. omega arith;
}

pub chosen_lawful : (x : Chosen) → Lawful (chosen_meaning x)
chosen_lawful (ByFair x) = fair_lawful
chosen_lawful (ByRamp x) = ramp_lawful
chosen_lawful (ByZip x) = zip_lawful (turns_of x.turns.at)

past_askable : (b : Bool) (q : Question) (past : List Question) → Askable q → AllByRecursion Askable past → AllByRecursion Askable (cond b (q ∷ past) past)
past_askable true q past h k = (h, k)
past_askable false q past h k = k

pub after_lawful : (m : Meaning) (node : ℕ) (q : Question) → Askable q → Lawful m → Lawful (after m node q)
after_lawful m node q hq law = record {
  splits = λ n past x hn hp hx. law.splits n (cond (n == node) (q ∷ past) past) x hn (past_askable (n == node) q past hq hp) hx;
  first_limit = law.first_limit;
  second_limit = law.second_limit;
}
