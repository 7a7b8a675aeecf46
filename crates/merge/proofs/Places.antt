-- What an array with the same at each place tells of the nodes, and what a rule means where one node's state has changed.
use Rattle.std.proofs.Common.{◌≡◌, ℕ, ◌-◌, ltb, leb, get_or, replicate, Bool, true, false, cond, ◌&&◌, List, ◌∷◌, ◌==◌, sym, ◌∙◌, ap, subst, refl, arith}
use Rattle.std.proofs.Math.Path.{fun_ext}
use Rattle.std.proofs.lemmas.List.{get_or-replicate}
use Rattle.std.proofs.lemmas.Bool.{cond_both, cond-true, cond-false, and_parts, leb-true, eqb-true, eq-eqb}
use Rattle.merge.specs.declared.question.Question.{Question}
use Rattle.merge.specs.Rules.{after}
use Rattle.merge.specs.States.{nodes, inside, at_node, behind, machine}

pub all_same : {X : Type 0} (x d : X) (n : ℕ) → at_node d (replicate nodes x) n ≡ cond (inside n) x d
all_same x d n = cond_both (inside n) (get_or (replicate nodes x) (n - 1) d) d (λ y. y ≡ cond (inside n) x d)
    (λ e. get_or-replicate nodes (n - 1) x d (omega (arith, leb-true n nodes (and_parts (ltb 0 n) (leb n nodes) e).1)) ∙ sym (cond-true (inside n) x d e))
    (λ e. sym (cond-false (inside n) x d e))

module _ {S : Type 0} (limits : ℕ → ℕ → ℕ × ℕ) (answer : S → Question → ℕ × ℕ) (next : S → Question → S) where
  kept : Bool → S → Question → S
  kept b s q = cond b (next s q) s

  turned : (b c : Bool) (s s' : S) (q : Question) → c ≡ true → s' ≡ cond (b && c) (next s q) s → s' ≡ kept b s q
  unfolding kept
  turned true true s s' q e f = f
  turned false true s s' q e f = f
  turned true false s s' q e f = cc
  turned false false s s' q e f = f

  stayed : (b c : Bool) (s s' t : S) → c ≡ false → s' ≡ cond (b && c) t s → s' ≡ s
  stayed true false s s' t e f = f
  stayed false false s s' t e f = f
  stayed true true s s' t e f = cc
  stayed false true s s' t e f = f

  module _ (states states' : ℕ → S) (node : ℕ) (q : Question) (h : (n : ℕ) → states' n ≡ cond (inside node && n == node) (next (states node) q) (states n)) where
    at_one : (n : ℕ) (past : List Question) (x : Question) (b : Bool) → (n == node) ≡ b
        → answer (behind (kept (inside n)) (states' n) past) x ≡ answer (behind (kept (inside n)) (states n) (cond b (q ∷ past) past)) x
    at_one n past x true e =
        let i : n ≡ node = eqb-true n node e in
        let k : states' node ≡ kept (inside node) (states node) q = turned (inside node) (node == node) _ _ q (eq-eqb node node refl) (h node) in
        let l : states' n ≡ kept (inside n) (states n) q = subst (λ m. states' m ≡ kept (inside m) (states m) q) (sym i) k in
        ap (λ s. answer (behind (kept (inside n)) s past) x) l
    at_one n past x false e = ap (λ s. answer (behind (kept (inside n)) s past) x) (stayed (inside node) (n == node) _ _ _ e (h n))

    pub leaves : machine limits answer next states' ≡ after (machine limits answer next states) node q
    unfolding kept
    leaves = ap (λ (f : ℕ → List Question → Question → ℕ × ℕ). record { limits = limits; splits = f })
        (fun_ext (λ n. fun_ext (λ past. fun_ext (λ x. at_one n past x (n == node) refl))))
