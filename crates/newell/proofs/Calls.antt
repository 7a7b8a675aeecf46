-- The calls alone decide the answers and the curves.
use Rattle.merge.specs.declared.question.Question.{Question}
use Rattle.newell.specs.declared.records.StepRow.{StepRow}
use Rattle.std.proofs.Common.{◌≡◌, ℕ, ◌+◌, ◌<◌, ◌≤◌, ◌⊎◌, List, [], ◌∷◌, map, get_or, sym, refl, ap, ◌∙◌, subst, ap₂, inl, inr, arith}
use Rattle.std.proofs.lemmas.List.{same_lists}
use Rattle.std.proofs.lemmas.Bool.{cases_lt, cases_eq}
use Rattle.network.specs.Net.{Net, Sound, entering, leaving}
use Rattle.merge.specs.Rules.{Meaning}
use Rattle.newell.specs.Plain.{Curves, Law}
use Rattle.newell.specs.History.{to_book, to_step, to_ask_link, to_ask_entrance, to_ask_exit, call, History, Event, book, step, ask_link, ask_entrance, ask_exit, Reply, told, refused, clock, booked, Checked, Filled, Asked, Answers, Follows}
use Rattle.newell.specs.Promise.{Agree, OnePlainRun}
use Rattle.newell.proofs.Single.{same_history, v_next, came_next}
use Rattle.newell.proofs.Extend.{answers_same}
use Rattle.newell.proofs.Timeline.{stepped}

-- an event with a known call
as_book : (e x n : ℕ) (event : Event) → to_book e x n ≡ call event → (r : Reply (Unit {0})) × (event ≡ book e x n r)
as_book e x n (book e' x' n' r) q = (r, cc)
as_book e x n (step m rows r m' rows') q = cc
as_book e x n (ask_link i r) q = cc
as_book e x n (ask_entrance i r) q = cc
as_book e x n (ask_exit i r) q = cc

as_step : (m : Meaning) (rows : List StepRow) (event : Event) → to_step m rows ≡ call event
    → (r : Reply (Unit {0})) × (m' : Meaning) × (rows' : List StepRow) × (event ≡ step m rows r m' rows')
as_step m rows (book e' x' n' r) q = cc
as_step m rows (step m₁ rows₁ r m' rows') q = (r, m', rows', cc)
as_step m rows (ask_link i r) q = cc
as_step m rows (ask_entrance i r) q = cc
as_step m rows (ask_exit i r) q = cc

as_link : (n : ℕ) (event : Event) → to_ask_link n ≡ call event → (r : Reply _) × (event ≡ ask_link n r)
as_link n (book e' x' n' r) q = cc
as_link n (step m rows r m' rows') q = cc
as_link n (ask_link i r) q = (r, cc)
as_link n (ask_entrance i r) q = cc
as_link n (ask_exit i r) q = cc

as_entrance : (n : ℕ) (event : Event) → to_ask_entrance n ≡ call event → (r : Reply ℕ) × (event ≡ ask_entrance n r)
as_entrance n (book e' x' n' r) q = cc
as_entrance n (step m rows r m' rows') q = cc
as_entrance n (ask_link i r) q = cc
as_entrance n (ask_entrance i r) q = (r, cc)
as_entrance n (ask_exit i r) q = cc

as_exit : (n : ℕ) (event : Event) → to_ask_exit n ≡ call event → (r : Reply ℕ) × (event ≡ ask_exit n r)
as_exit n (book e' x' n' r) q = cc
as_exit n (step m rows r m' rows') q = cc
as_exit n (ask_link i r) q = cc
as_exit n (ask_entrance i r) q = cc
as_exit n (ask_exit i r) q = (r, cc)

-- checks give one answer
one : {A N : Type 0} {k : ℕ} {C C' : Type 0} (r r' : Reply A) → (N → C → C' → r ≡ r')
    → ((N → ⊥) × (r ≡ refused k)) ⊎ (N × C) → ((N → ⊥) × (r' ≡ refused k)) ⊎ (N × C') → r ≡ r'
one r r' f (inl p) (inl q) = p.1 ∙ sym q.1
one r r' f (inl p) (inr q) = absurd (p.0 q.0)
one r r' f (inr p) (inl q) = absurd (q.0 p.0)
one r r' f (inr p) (inr q) = f p.0 p.1 q.1

end : {A : Type 0} (then : A → Type 0) → ((a b : A) → then a → then b → a ≡ b) → (r r' : Reply A) → Checked [] then r → Checked [] then r' → r ≡ r'
end then f (told a) (told b) p q = ap told (f a b p q)
end then f (told a) (refused k) p q = absurd q
end then f (refused k) r' p q = absurd p

-- the rows and the meaning that a step leaves
rows_one : (net : Net) (c : Curves) (t : ℕ) (rows a b : List StepRow) → Filled net c t rows a → Filled net c t rows b → a ≡ b
rows_one net c t rows a b p q = same_lists a b (p.as_many ∙ sym q.as_many) (λ i d k. go i d (cases_lt i net.links))
  where
    go : (i : ℕ) (d : StepRow) → (i < net.links) ⊎ (net.links ≤ i) → get_or a i d ≡ get_or b i d
    go i d (inl k) = p.filled i d k ∙ sym (q.filled i d k)
    go i d (inr k) = p.beyond i d k ∙ sym (q.beyond i d k)

meaning_one : (net : Net) (c : Curves) (t : ℕ) (m a b : Meaning) → Asked net c t m a → Asked net c t m b → a ≡ b
meaning_one net c t m a b p q = λ z. record {
  limits = λ n k. (p.limits n k ∙ sym (q.limits n k)) z;
  splits = λ n qs x. go n qs x (entering net n) (leaving net n) refl refl z;
}
  where
    not : (n : ℕ) (qs : List Question) (x : Question) → ((i i' j : ℕ) → entering net n ≡ i ∷ i' ∷ [] → leaving net n ≡ j ∷ [] → ⊥) → a.splits n qs x ≡ b.splits n qs x
    not n qs x no-merge = p.other n no-merge qs x ∙ sym (q.other n no-merge qs x)

    go : (n : ℕ) (qs : List Question) (x : Question) (is js : List ℕ) → entering net n ≡ is → leaving net n ≡ js → a.splits n qs x ≡ b.splits n qs x
    go n qs x [] js e l = not n qs x (λ i i' j y w. cc)
    go n qs x (i ∷ []) js e l = not n qs x (λ i i' j y w. cc)
    go n qs x (i ∷ i' ∷ k ∷ is) js e l = not n qs x (λ i i' j y w. cc)
    go n qs x (i ∷ i' ∷ []) [] e l = not n qs x (λ i i' j y w. cc)
    go n qs x (i ∷ i' ∷ []) (j ∷ []) e l = p.merge n i i' j e l qs x ∙ sym (q.merge n i i' j e l qs x)
    go n qs x (i ∷ i' ∷ []) (j ∷ j' ∷ js) e l = not n qs x (λ i i' j y w. cc)

agree_next : (net : Net) (sound : Sound net) (c d : Curves) (b : ℕ → List ℕ) (m : Meaning) (t : ℕ) → Law net c b m t → Law net d b m t → Agree net c d t → Agree net c d (t + 1)
agree_next net sound c d b m t law law' g s i l k = go (cases_eq s (t + 1))
  where
    go : (s ≡ t + 1) ⊎ (s ≡ t + 1 → ⊥) → (c.came i s ≡ d.came i s) × (c.left i s ≡ d.left i s)
    go (inl e) = rw e (came_next net sound c d b m t law law' g i k, v_next net sound c d b m t law law' g i k)
    go (inr e) = g s i (omega arith) k

same_event : (net : Net) (sound : Sound net) (h : History) (c d : Curves) (event event' : Event) → call event ≡ call event' → Agree net c d (clock h)
    → Answers net c h event → Answers net d h event' → event ≡ event'
same_event net sound h c d (book e x n r) event' q g p p' =
    let b = as_book e x n event' q in
    let a : Answers net c h (book e x n b.0) = answers_same net sound d c h (book e x n b.0) (λ s i l k. (sym (g s i l k).0, sym (g s i l k).1)) (subst (Answers net d h) b.1 p') in
    ap (book e x n) (one r b.0 (λ _. one r b.0 (λ _. one r b.0 (λ _. one r b.0 (λ _. one r b.0 (λ _. end (λ u. Unit {0}) (λ u v _ _. refl) r b.0))))) p a) ∙ sym b.1
same_event net sound h c d (step m rows r m' rows') event' q g p p' =
    let b = as_step m rows event' q in
    step_one r b.0 b.1 b.2 p (subst (Answers net d h) b.3 p') ∙ sym b.3
  where
    step_one : (r r₁ : Reply (Unit {0})) (m₁ : Meaning) (rows₁ : List StepRow) → Answers net c h (step m rows r m' rows') → Answers net d h (step m rows r₁ m₁ rows₁)
        → step m rows r m' rows' ≡ step m rows r₁ m₁ rows₁
    step_one (told u) (told v) m₁ rows₁ p p' =
        let x = stepped net c h m rows u m' rows' p in let y = stepped net d h m rows v m₁ rows₁ p' in
        let later : Agree net c d (clock h + 1) = agree_next net sound c d (booked h (clock h)) m (clock h) x.0 y.0 g in
        let back = answers_same net sound d c h (step m rows (told v) m₁ rows₁) (λ s i l k. (sym (later s i l k).0, sym (later s i l k).1)) p' in
        let w = stepped net c h m rows v m₁ rows₁ back in
        ap₂ (λ a b. step m rows (told u) a b) (meaning_one net c (clock h) m m' m₁ x.2 w.2) (rows_one net c (clock h) rows rows' rows₁ x.1 w.1)
    step_one (refused k) (refused k₁) m₁ rows₁ p p' =
        let e : ◌≡◌ {A = Reply (Unit {0})} (refused k) (refused k₁) = one (refused k) (refused k₁) (λ _. one (refused k) (refused k₁) (λ _ z _. absurd z)) p.0 p'.0 in
        let x = p.1 k refl in let y = p'.1 k₁ refl in
        cc
    step_one (told u) (refused k) m₁ rows₁ p p' =
        let e : ◌≡◌ {A = Reply (Unit {0})} (told u) (refused k) = one (told u) (refused k) (λ _. one (told u) (refused k) (λ _ _ z. absurd z)) p.0 p'.0 in cc
    step_one (refused k) (told u) m₁ rows₁ p p' =
        let e : ◌≡◌ {A = Reply (Unit {0})} (refused k) (told u) = one (refused k) (told u) (λ _. one (refused k) (told u) (λ _ z _. absurd z)) p.0 p'.0 in cc
same_event net sound h c d (ask_link n r) event' q g p p' =
    let b = as_link n event' q in
    let a : Answers net c h (ask_link n b.0) = answers_same net sound d c h (ask_link n b.0) (λ s i l k. (sym (g s i l k).0, sym (g s i l k).1)) (subst (Answers net d h) b.1 p') in
    ap (ask_link n) (one r b.0 (λ _. end _ (λ u v x y. x ∙ sym y) r b.0) p a) ∙ sym b.1
same_event net sound h c d (ask_entrance e r) event' q g p p' =
    let b = as_entrance e event' q in
    let a : Answers net c h (ask_entrance e b.0) = answers_same net sound d c h (ask_entrance e b.0) (λ s i l k. (sym (g s i l k).0, sym (g s i l k).1)) (subst (Answers net d h) b.1 p') in
    ap (ask_entrance e) (one r b.0 (λ j. end _ (λ u v x y. x j.0 j.1 ∙ sym (y j.0 j.1)) r b.0) p a) ∙ sym b.1
same_event net sound h c d (ask_exit e r) event' q g p p' =
    let b = as_exit e event' q in
    let a : Answers net c h (ask_exit e b.0) = answers_same net sound d c h (ask_exit e b.0) (λ s i l k. (sym (g s i l k).0, sym (g s i l k).1)) (subst (Answers net d h) b.1 p') in
    ap (ask_exit e) (one r b.0 (λ j. end _ (λ u v x y. x j.0 j.1 ∙ sym (y j.0 j.1)) r b.0) p a) ∙ sym b.1

tails : {A : Type 0} (x y : A) (xs ys : List A) → x ∷ xs ≡ y ∷ ys → (x ≡ y) × (xs ≡ ys)
tails x y xs ys e = (cc, cc)

pub one_plain_run : OnePlainRun
one_plain_run net sound [] [] c d q f g = (refl, same_history net sound [] c d f g)
one_plain_run net sound [] (event' ∷ h') c d q f g = cc
one_plain_run net sound (event ∷ h) [] c d q f g = cc
one_plain_run net sound (event ∷ h) (event' ∷ h') c d q f g =
    let t = tails (call event) (call event') (map call h) (map call h') q in
    let r = one_plain_run net sound h h' c d t.1 f.0 g.0 in
    let a : Answers net d h event' = subst (λ k. Answers net d k event') (sym r.0) g.1 in
    let e = same_event net sound h c d event event' t.0 r.1 f.1 a in
    let w : event ∷ h ≡ event' ∷ h' = ap₂ {C = History} (λ x xs. x ∷ xs) e r.0 in
    (w, same_history net sound (event ∷ h) c d f (subst (Follows net d) (sym w) g))
