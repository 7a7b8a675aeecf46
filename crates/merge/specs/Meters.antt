-- What holds of a rule under a ramp meter.
use Rattle.std.specs.Prelude.{◌≡◌, ℕ, ◌≤◌, Bool, true, false, cond, List, [], ◌∷◌, map, Some, None, Option, ◌==◌, refl}
use Rattle.std.proofs.Common.{sym, ◌∙◌, ap, arith}
use Rattle.std.proofs.Math.Path.{fun_ext}
use Rattle.std.specs.List.{AllByRecursion}
use Rattle.std.proofs.lemmas.Bool.{eqb-true}
use Rattle.std.proofs.lemmas.Bool.Decides.{nat_tests}
use Rattle.merge.specs.declared.question.Question.{Question}
use Rattle.merge.specs.declared.gate.Gate.{Gate}
use Rattle.merge.specs.Rules.{Meaning, after, Lawful, Proper, Askable}
use Rattle.merge.specs.Metering.{cut_limit, meter_limits, cut_to, passed_on, metered, with_gate, Held}

cut_limit_le : (g : Option Gate) (clock l : ℕ) → cut_limit g clock l ≤ l
cut_limit_le None clock l = omega arith
cut_limit_le (Some g) clock l = grind (arith, nat_tests)

cut_to_askable : (l : ℕ) (q : Question) → Askable q → Askable (cut_to l q)
cut_to_askable l q h = record { clock = h.clock; s1 = h.s1; s2 = omega arith; r = h.r; q1 = h.q1; q2 = h.q2 }

passed_askable : (gates : ℕ → Option Gate) (below : ℕ → ℕ → ℕ × ℕ) (n : ℕ) (past : List Question) → AllByRecursion Askable past → AllByRecursion Askable (map (passed_on gates below n) past)
passed_askable gates below n [] h = h
passed_askable gates below n (q ∷ past) h = (cut_to_askable _ q h.0, passed_askable gates below n past h.1)

-- a split that is proper below with the second leg cut is proper above
cut_proper : (l1 l2 k : ℕ) (q : Question) (g : ℕ × ℕ) → k ≤ l2 → Proper (l1, l2) (cut_to k q) g → Proper (l1, k) q g
cut_proper l1 l2 k q g h s = record { first = s.first; second = omega arith; full = omega arith }

pub metered_lawful : (gates : ℕ → Option Gate) (m : Meaning) → Lawful m → Lawful (metered gates m)
metered_lawful gates m law = record {
  splits = λ node past q hn hp hq.
      cut_proper (m.limits node q.clock).0 (m.limits node q.clock).1 _ q _ (cut_limit_le (gates node) q.clock _)
      (law.splits node _ _ hn (passed_askable gates m.limits node past hp) (cut_to_askable _ q hq));
  first_limit = law.first_limit;
  second_limit = λ node clock hn hc. omega (arith, cut_limit_le (gates node) clock (m.limits node clock).1, law.second_limit node clock hn hc);
}

past_passed : (gates : ℕ → Option Gate) (below : ℕ → ℕ → ℕ × ℕ) (n node : ℕ) (q : Question) (past : List Question) (b : Bool) → (n == node) ≡ b
    → cond b (passed_on gates below node q ∷ map (passed_on gates below n) past) (map (passed_on gates below n) past) ≡ map (passed_on gates below n) (cond b (q ∷ past) past)
past_passed gates below n node q past true e = ap (λ k. passed_on gates below k q ∷ map (passed_on gates below n) past) (sym (eqb-true n node e))
past_passed gates below n node q past false e = refl

-- the meter goes on as its meaning says where the rule below was asked what it passes on
metered_after : (gates : ℕ → Option Gate) (m : Meaning) (node : ℕ) (q : Question)
    → metered gates (after m node (passed_on gates m.limits node q)) ≡ after (metered gates m) node q
metered_after gates m node q =
    ap (λ (f : ℕ → List Question → Question → ℕ × ℕ). record { limits = meter_limits gates m.limits; splits = f })
    (fun_ext (λ n. fun_ext (λ past. fun_ext (λ x.
    ap (λ p. m.splits n p (passed_on gates m.limits n x)) (past_passed gates m.limits n node q past (n == node) refl)))))

-- what the rule below answers and leaves where it was asked `p`
pub metered_answers : (gates : ℕ → Option Gate) (m : Meaning) (node : ℕ) (q p : Question) (g : ℕ × ℕ)
    → p ≡ passed_on gates m.limits node q → g ≡ m.splits node [] p → g ≡ (metered gates m).splits node [] q
metered_answers gates m node q p g e f = f ∙ ap (m.splits node []) e

pub metered_leaves : (gates : ℕ → Option Gate) (m new : Meaning) (node : ℕ) (q p : Question)
    → p ≡ passed_on gates m.limits node q → new ≡ after m node p → metered gates new ≡ after (metered gates m) node q
metered_leaves gates m new node q p e f = ap (metered gates) (f ∙ ap (after m node) e) ∙ metered_after gates m node q

-- what keeps to the limit of a gate is held by it
held_limit : (g : Option Gate) (clock l passed : ℕ) → passed ≤ cut_limit g clock l → Held g clock passed
held_limit None clock l passed h = tt
held_limit (Some g) clock l passed h = record { green = λ e. grind (arith, nat_tests); red = λ e. grind (arith, nat_tests) }

-- a split that is proper under a meter's limits is held by the gate
pub held_split : (gates : ℕ → Option Gate) (m : Meaning) (node : ℕ) (q : Question) (g : ℕ × ℕ)
    → Proper ((metered gates m).limits node q.clock) q g → Held (gates node) q.clock g.1
held_split gates m node q g h = held_limit (gates node) q.clock (m.limits node q.clock).1 g.1 (omega (arith, h.second))

-- a rule behind one gate
pub gated : (f old none : ℕ → Option Gate) (m : Meaning) (node : ℕ) (gate : Gate) (q : Question)
    → f ≡ with_gate old node gate → old ≡ none
    → (metered f m).splits node [] q ≡ (metered (with_gate none node gate) m).splits node [] q
gated f old none m node gate q e h = ap (λ k. (metered k m).splits node [] q) (e ∙ ap (λ k. with_gate k node gate) h)
