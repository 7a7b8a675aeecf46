-- What one question makes of a rule's meaning, part by part.
use Rattle.merge.specs.declared.question.Question.{Question}
use Rattle.std.proofs.Common.{◌≡◌, ℕ, cond, List, ◌∷◌, sym, refl, ap, subst, eq-eqb, ne_eqb}
use Rattle.merge.specs.Rules.{Meaning, after}

pub record Behind (m : Meaning) (n : ℕ) (q : Question) (m' : Meaning) : Type 0 where
  pub limits : (k t : ℕ) → m'.limits k t ≡ m.limits k t
  pub here : (past : List Question) (p : Question) → m'.splits n past p ≡ m.splits n (q ∷ past) p
  pub other : (k : ℕ) → (k ≡ n → ⊥) → (past : List Question) (p : Question) → m'.splits k past p ≡ m.splits k past p

pub behind : (m m' : Meaning) (n : ℕ) (q : Question) → m' ≡ after m n q → Behind m n q m'
behind m m' n q e = subst (Behind m n q) (sym e) (record {
  limits = λ k t. refl;
  here = λ past p. ap (λ b. m.splits n (cond b (q ∷ past) past) p) (eq-eqb n n refl);
  other = λ k ne past p. ap (λ b. m.splits k (cond b (q ∷ past) past) p) (ne_eqb k n ne);
})
