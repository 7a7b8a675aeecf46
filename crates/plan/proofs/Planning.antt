-- What the plan at one node shows.
use Rattle.std.proofs.Common.{◌≡◌, ℕ, ◌+◌, ◌<◌, ◌≤◌, min, ◌≢◌, List, [], ◌∷◌, length, get_or, set, sym, refl, ap, ◌∙◌, subst, ap₂, ⊎_elim, arith}
use Rattle.std.proofs.lemmas.List.{get_or-set_same, get_or-set_other, length-set}
use Rattle.std.proofs.lemmas.Bool.{cases_eq, cases_lt}
use Rattle.merge.specs.declared.question.Question.{Question}
use Rattle.network.specs.Net.{Net, entering, leaving}
use Rattle.merge.specs.Rules.{Meaning, after}
use Rattle.newell.specs.Plain.{Greatest}
use Rattle.newell.specs.Now.{RunNow, sends, takes, asks, Fit, Passes, AskedNow}
use Rattle.network.proofs.Sorts.{in₁, in₂, two_rise}
use Rattle.newell.proofs.Asking.{behind}
use Rattle.plan.specs.Plans.{Merges, AskedAt, AskedBelow}

pub clash : {A : Type 0} (x : A) (xs : List A) → [] ≡ x ∷ xs → ⊥
clash x xs e = let z : ◌≡◌ {A = ℕ} 0 1 = cc in omega arith

one_two : (x y z : ℕ) (zs : List ℕ) → x ∷ [] ≡ y ∷ z ∷ zs → ⊥
one_two x y z zs e = let w : ◌≡◌ {A = List ℕ} [] (z ∷ zs) = cc in clash z zs w

head : (x y : ℕ) (xs ys : List ℕ) → x ∷ xs ≡ y ∷ ys → x ≡ y
head x y xs ys e = cc

module _ (net : Net) (r : RunNow) (m : Meaning) (k : ℕ → ℕ) (n : ℕ) where
  pub passes_exit : (i : ℕ) → entering net n ≡ i ∷ [] → leaving net n ≡ [] → k i ≡ sends net r i → Passes net r m k n
  passes_exit i e l h = record {
    exit = λ i' f g. subst (λ q. k q ≡ sends net r q) (head i i' [] [] (sym e ∙ f)) h;
    mainline = λ i' j f g. absurd (clash j [] (sym l ∙ g));
    merge = λ i' i'' j f g. absurd (clash j [] (sym l ∙ g));
    diverge = λ i' j j' f g. absurd (clash j (j' ∷ []) (sym l ∙ g));
  }

  pub passes_mainline : (i j : ℕ) → entering net n ≡ i ∷ [] → leaving net n ≡ j ∷ [] → k i ≡ min (sends net r i) (takes net r j) → Passes net r m k n
  passes_mainline i j e l h = record {
    exit = λ i' f g. absurd (clash j [] (sym g ∙ l));
    mainline = λ i' j' f g. subst (λ q. k q ≡ min (sends net r q) (takes net r j')) (head i i' [] [] (sym e ∙ f)) (subst (λ q. k i ≡ min (sends net r i) (takes net r q)) (head j j' [] [] (sym l ∙ g)) h);
    merge = λ i' i'' j' f g. absurd (one_two i i' i'' [] (sym e ∙ f));
    diverge = λ i' j' j'' f g. absurd (one_two j j' j'' [] (sym l ∙ g));
  }

  second : (x x' y y' : ℕ) → x ∷ x' ∷ [] ≡ y ∷ y' ∷ [] → x' ≡ y'
  second x x' y y' e = cc

  pub passes_merge : (i i' j : ℕ) → entering net n ≡ i ∷ i' ∷ [] → leaving net n ≡ j ∷ [] → k i ≡ (m.splits n [] (asks net r i i' j)).0 → k i' ≡ (m.splits n [] (asks net r i i' j)).1 → Passes net r m k n
  passes_merge i i' j e l a b = record {
    exit = λ x f g. absurd (clash j [] (sym g ∙ l));
    mainline = λ x y f g. absurd (one_two x i i' [] (sym f ∙ e));
    merge = λ x x' y f g.
        let p = head i x (i' ∷ []) (x' ∷ []) (sym e ∙ f) in let q = second i i' x x' (sym e ∙ f) in let s = head j y [] [] (sym l ∙ g) in
        let w : asks net r i i' j ≡ asks net r x x' y = ap₂ (λ u v. asks net r u v j) p q ∙ ap (asks net r x x') s in
        (sym (ap k p) ∙ a ∙ ap (λ u. (m.splits n [] u).0) w, sym (ap k q) ∙ b ∙ ap (λ u. (m.splits n [] u).1) w);
    diverge = λ x y y' f g. absurd (one_two j y y' [] (sym l ∙ g));
  }

  pub passes_diverge : (i j j' : ℕ) → entering net n ≡ i ∷ [] → leaving net n ≡ j ∷ j' ∷ [] → Greatest (Fit net r i j j') (k i) → Passes net r m k n
  passes_diverge i j j' e l h = record {
    exit = λ x f g. absurd (clash j (j' ∷ []) (sym g ∙ l));
    mainline = λ x y f g. absurd (one_two y j j' [] (sym g ∙ l));
    merge = λ x x' y f g. absurd (one_two i x x' [] (sym e ∙ f));
    diverge = λ x y y' f g.
        subst (λ u. Greatest (Fit net r u y y') (k u)) (head i x [] [] (sym e ∙ f))
        (subst (λ u. Greatest (Fit net r i y u) (k i)) (second j j' y y' (sym l ∙ g)) (subst (λ u. Greatest (Fit net r i u j') (k i)) (head j y (j' ∷ []) (y' ∷ []) (sym l ∙ g)) h));
  }

  -- how many leave is told by what was written for this node's links
  pub passes_ext : (k' : ℕ → ℕ) → ((i : ℕ) → (net.link i).to ≡ n → k i ≡ k' i) → Passes net r m k n → Passes net r m k' n
  passes_ext k' s p = record {
    exit = λ i f g. sym (s i (in₁ net n i [] f).1) ∙ p.exit i f g;
    mainline = λ i j f g. sym (s i (in₁ net n i [] f).1) ∙ p.mainline i j f g;
    merge = λ i i' j f g. let q = p.merge i i' j f g in (sym (s i (in₁ net n i (i' ∷ []) f).1) ∙ q.0, sym (s i' (in₂ net n i i' [] f).1) ∙ q.1);
    diverge = λ i j j' f g. subst (Greatest (Fit net r i j j')) (s i (in₁ net n i [] f).1) (p.diverge i j j' f g);
  }

  -- a node that no link enters or that is none
  pub passes_none : ((i : ℕ) → i < net.links → (net.link i).to ≢ n) → Passes net r m k n
  passes_none h = record {
    exit = λ i f g. let q = in₁ net n i [] f in absurd (h i q.0 q.1);
    mainline = λ i j f g. let q = in₁ net n i [] f in absurd (h i q.0 q.1);
    merge = λ i i' j f g. let q = in₁ net n i (i' ∷ []) f in absurd (h i q.0 q.1);
    diverge = λ i j j' f g. let q = in₁ net n i [] f in absurd (h i q.0 q.1);
  }

module _ (net : Net) (r : RunNow) (n : ℕ) (m : Meaning) where
  asked_none : ((i i' j : ℕ) → Merges net n i i' j → ⊥) → AskedAt net r n m m
  asked_none h = record { limits = λ k t. refl; here = λ i i' j e. absurd (h i i' j e); other = λ k h asked q. refl }

  pub asked_one : (i : ℕ) → entering net n ≡ i ∷ [] → AskedAt net r n m m
  asked_one i e = asked_none (λ x x' y f. one_two i x x' [] (sym e ∙ f.0))

  pub asked_merge : (i i' j : ℕ) (m' : Meaning) → entering net n ≡ i ∷ i' ∷ [] → leaving net n ≡ j ∷ [] → m' ≡ after m n (asks net r i i' j) → AskedAt net r n m m'
  asked_merge i i' j m' e l eq = let b = behind m m' n (asks net r i i' j) eq in record {
    limits = b.limits;
    here = λ x x' y f asked q.
        let p = head i x (i' ∷ []) (x' ∷ []) (sym e ∙ f.0) in let s = snd i i' x x' (sym e ∙ f.0) in let u = head j y [] [] (sym l ∙ f.1) in
        let w : asks net r i i' j ≡ asks net r x x' y = ap₂ (λ u v. asks net r u v j) p s ∙ ap (asks net r x x') u in
        b.here asked q ∙ ap (λ (z : Question). m.splits n (z ∷ asked) q) w;
    other = λ x h asked q. ⊎_elim
        (λ (z : x ≡ n). absurd (h z i i' j (subst (λ v. Merges net v i i' j) (sym z) (e, l))))
        (λ (z : x ≢ n). b.other x z asked q)
        (cases_eq x n);
  }
    where
      snd : (x x' y y' : ℕ) → x ∷ x' ∷ [] ≡ y ∷ y' ∷ [] → x' ≡ y'
      snd x x' y y' e = cc

pub put_same : (outs : List ℕ) (i x : ℕ) → i < length outs → get_or (set outs i x) i 0 ≡ x
put_same outs i x l = get_or-set_same outs i x 0 l

pub put_other : (net : Net) (n : ℕ) (outs : List ℕ) (i x : ℕ) → (net.link i).to ≡ n → (q : ℕ) → (net.link q).to ≢ n → get_or (set outs i x) q 0 ≡ get_or outs q 0
put_other net n outs i x e q ne = let d : q ≢ i = λ f. ne (ap (λ z. (net.link z).to) f ∙ e) in get_or-set_other outs i q x 0 d

-- both legs of a merge
pub put_first : (net : Net) (n : ℕ) (outs : List ℕ) (i i' x x' : ℕ) → entering net n ≡ i ∷ i' ∷ [] → i < length outs → get_or (set (set outs i x) i' x') i 0 ≡ x
put_first net n outs i i' x x' e l =
    let h = two_rise _ net.links i i' e in
    let d : i ≢ i' = omega arith in get_or-set_other (set outs i x) i' i x' 0 d ∙ get_or-set_same outs i x 0 l

pub put_second : (outs : List ℕ) (i i' x x' : ℕ) → i' < length outs → get_or (set (set outs i x) i' x') i' 0 ≡ x'
put_second outs i i' x x' l = get_or-set_same (set outs i x) i' x' 0 (rw length-set l)

module _ (net : Net) (r : RunNow) (m m₁ : Meaning) where
  passes_meaning : (k : ℕ → ℕ) (n : ℕ) → ((q : Question) → m₁.splits n [] q ≡ m.splits n [] q) → Passes net r m₁ k n → Passes net r m k n
  passes_meaning k n s p = record {
    exit = p.exit;
    mainline = p.mainline;
    merge = λ i i' j f g. let q = p.merge i i' j f g in let e = s (asks net r i i' j) in (q.0 ∙ ap (λ (z : ℕ × ℕ). z.0) e, q.1 ∙ ap (λ (z : ℕ × ℕ). z.1) e);
    diverge = p.diverge;
  }

  module _ (n : ℕ) (low : AskedBelow net r n m m₁) where
    -- one node more
    pub below_again : (m₂ : Meaning) → AskedAt net r n m₁ m₂ → AskedBelow net r (n + 1) m m₂
    below_again m₂ at = record {
      limits = λ k t. at.limits k t ∙ low.limits k t;
      here = λ k i i' j l e asked q. ⊎_elim
          (λ (z : k ≡ n). subst (λ v. m₂.splits v asked q ≡ m.splits v (asks net r i i' j ∷ asked) q) (sym z)
          (at.here i i' j (subst (λ v. Merges net v i i' j) z e) asked q ∙ low.other n (λ h. absurd (omega arith)) (asks net r i i' j ∷ asked) q))
          (λ (z : k ≢ n). at.other k (λ f. absurd (z f)) asked q ∙ low.here k i i' j (omega (arith, z)) e asked q)
          (cases_eq k n);
      other = λ k h asked q. at.other k (λ f. h (omega (arith, f))) asked q ∙ low.other k (λ l. h (omega arith)) asked q;
    }

    pub passes_again : (k k' : ℕ → ℕ) → ((i : ℕ) → (net.link i).to ≢ n → k' i ≡ k i) → ((q : ℕ) → q < n → Passes net r m k q) → Passes net r m₁ k' n → (q : ℕ) → q < n + 1 → Passes net r m k' q
    passes_again k k' others old new q l = ⊎_elim
        (λ (z : q ≡ n). subst (Passes net r m k') (sym z) (passes_meaning k' n (λ u. low.other n (λ h. absurd (omega arith)) [] u) new))
        (λ (z : q ≢ n). passes_ext net r m k q k' (λ i e. sym (others i (λ f. z (sym e ∙ f)))) (old q (omega (arith, z))))
        (cases_eq q n)

pub below_none : (net : Net) (r : RunNow) (m : Meaning) → ((i : ℕ) → i < net.links → 1 ≤ (net.link i).to) → AskedBelow net r 1 m m
below_none net r m h = record {
  limits = λ k t. refl;
  here = λ k i i' j l e. let z = in₁ net k i (i' ∷ []) e.0 in absurd (omega (arith, z.1, h i z.0));
  other = λ k h asked q. refl;
}

pub passes_zero : (net : Net) (r : RunNow) (m : Meaning) (k : ℕ → ℕ) → ((i : ℕ) → i < net.links → 1 ≤ (net.link i).to) → (q : ℕ) → q < 1 → Passes net r m k q
passes_zero net r m k h q l = passes_none net r m k q (λ i b e. omega (arith, h i b, e))

pub asked_all : (net : Net) (r : RunNow) (m m' : Meaning) (n : ℕ) → ((i : ℕ) → i < net.links → (net.link i).to < n) → AskedBelow net r n m m' → AskedNow net r m m'
asked_all net r m m' n h a = record {
  limits = a.limits;
  merge = λ k i i' j f g. let z = in₁ net k i (i' ∷ []) f in a.here k i i' j (omega (arith, z.1, h i z.0)) (f, g);
  other = λ k b asked q. a.other k (λ l i i' j e. b i i' j e.0 e.1) asked q;
}

pub passes_all : (net : Net) (r : RunNow) (m : Meaning) (k : ℕ → ℕ) (n : ℕ) → ((i : ℕ) → i < net.links → (net.link i).to < n) → ((q : ℕ) → q < n → Passes net r m k q) → (q : ℕ) → Passes net r m k q
passes_all net r m k n h p q = ⊎_elim (λ (l : q < n). p q l) (λ (l : n ≤ q). passes_none net r m k q (λ i b e. omega (arith, h i b, e))) (cases_lt q n)
