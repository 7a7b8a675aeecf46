-- The plain run reads its curves at the clocks so far only; so it can be taken on by a step.
use Rattle.newell.specs.declared.records.Vehicle.{Vehicle}
use Rattle.merge.specs.declared.question.Question.{Question}
use Rattle.newell.specs.declared.records.StepRow.{StepRow}
use Rattle.std.proofs.Common.{◌≡◌, ℕ, zero, suc, ◌+◌, ◌-◌, ◌<◌, ◌≤◌, cond, leb, ◌⊎◌, List, [], ◌∷◌, ◌++◌, map, length, drop, sym, refl, ap, ◌∙◌, subst, ap₂, inl, inr, arith, le-leb}
use borrow.Author.Tests.{lt-leb}
use Rattle.network.specs.Net.{Net, Sound, Entrance}
use Rattle.merge.specs.Rules.{Meaning}
use Rattle.newell.specs.Plain.{Curves, V, waiting, Law}
use Rattle.newell.specs.History.{History, Event, book, step, ask_link, ask_entrance, ask_exit, told, refused, clock, booked, final, travelled, travel, last_travel, row_of, state_of, Filled, Asked, Answers, Follows}
use Rattle.newell.specs.Promise.{Agree}
use Rattle.network.proofs.Sorts.{in₁, in₂, off₁, off₂}
use Rattle.network.proofs.Places.{In, left_from}
use Rattle.newell.proofs.Single.{passable, v_same, u_same, s_same, r_same, on_same, question_same, leavers_same, arrivals_same}

less : (net : Net) (c d : Curves) (s t : ℕ) → s ≤ t → Agree net c d t → Agree net c d s
less net c d s t l a u i k q = a u i (omega arith) q

module _ (net : Net) (sound : Sound net) (c d : Curves) (t : ℕ) (agree : Agree net c d (t + 1)) where
  a : Agree net c d t
  a = less net c d t (t + 1) (omega arith) agree

  v_next : (i : ℕ) → i < net.links → V net c i (t + 1) ≡ V net d i (t + 1)
  v_next i k = (agree (t + 1) i (omega arith) k).1

  law_same : (b : ℕ → List ℕ) (m : Meaning) → Law net c b m t → Law net d b m t
  law_same b m law = record {
    arrive = λ j k. sym (agree (t + 1) j (omega arith) k).0 ∙ law.arrive j k
        ∙ ap₂ (λ (vs : List Vehicle) (xs : List ℕ). vs ++ map (λ x. record { exit = x; since = t + 1 }) xs) (a t j (omega arith) k).0
        (arrivals_same net sound c d t a (b (net.link j).from) j k v_next);
    exit = λ n i e l. let k = (in₁ net n i [] e).0 in omega (arith, law.exit n i e l, v_next i k, v_same net sound c d t a i t k (omega arith), s_same net sound c d t a i k);
    mainline = λ n i j e l. let k = (in₁ net n i [] e).0 in omega (arith, law.mainline n i j e l, v_next i k, v_same net sound c d t a i t k (omega arith), s_same net sound c d t a i k, r_same net sound c d t a j (off₁ net n j [] l).0);
    merge = λ n i i' j e l. let k = (in₁ net n i (i' ∷ []) e).0 in let k' = (in₂ net n i i' [] e).0 in let q = question_same net sound c d t a i i' j k k' (off₁ net n j [] l).0 in (
      sym (v_next i k) ∙ (law.merge n i i' j e l).0 ∙ ap₂ (λ v q. v + (m.splits n [] q).0) (v_same net sound c d t a i t k (omega arith)) q,
      sym (v_next i' k') ∙ (law.merge n i i' j e l).1 ∙ ap₂ (λ v q. v + (m.splits n [] q).1) (v_same net sound c d t a i' t k' (omega arith)) q,
    );
    diverge = λ n i j j' e l. let k = (in₁ net n i [] e).0 in let x = law.diverge n i j j' e l in
        let r = r_same net sound c d t a j (off₁ net n j (j' ∷ []) l).0 in let r' = r_same net sound c d t a j' (off₂ net n j j' [] l).0 in let s = s_same net sound c d t a i k in let o = on_same net sound c d t a i k in (
          x.0,
          omega (arith, x.1, v_next i k, v_same net sound c d t a i t k (omega arith)),
          record {
            holds = passable net c d i j j' t x.0 s r r' o x.2.holds;
            most = λ q p. x.2.most q (passable net d c i j j' t q (sym s) (sym r) (sym r') (sym o) p);
          },
        );
  }

  travel_same : (i : ℕ) → i < net.links → travel net c i t ≡ travel net d i t
  travel_same i k = ap (λ vs. travelled net c t (final vs)) (leavers_same net sound c d t a i k (v_next i k))

  row_same : (i : ℕ) → i < net.links → row_of net c i t ≡ row_of net d i t
  row_same i k = λ z. record {
    came = length ((agree (t + 1) i (omega arith) k).0 z) - length ((a t i (omega arith) k).0 z);
    left = v_next i k z - (a t i (omega arith) k).1 z;
    travel = travel_same i k z;
  }

  filled_same : (rows rows' : List StepRow) → Filled net c t rows rows' → Filled net d t rows rows'
  filled_same rows rows' f = record { as_many = f.as_many; filled = λ i e k. f.filled i e k ∙ row_same i k; beyond = f.beyond }

  asked_same : (m m' : Meaning) → Asked net c t m m' → Asked net d t m m'
  asked_same m m' f = record {
    limits = f.limits;
    merge = λ n i i' j e l qs q. f.merge n i i' j e l qs q
        ∙ ap (λ (p : Question). m.splits n (p ∷ qs) q) (question_same net sound c d t a i i' j (in₁ net n i (i' ∷ []) e).0 (in₂ net n i i' [] e).0 (off₁ net n j [] l).0);
    other = f.other;
  }

tail : {N P Q Q' : Type 0} → (Q → Q') → N ⊎ (P × Q) → N ⊎ (P × Q')
tail f (inl p) = inl p
tail f (inr p) = inr (p.0, f p.1)

head : {E P P' Q : Type 0} → (P → P') → (P' → P) → ((P → ⊥) × E) ⊎ (P × Q) → ((P' → ⊥) × E) ⊎ (P' × Q)
head f g (inl p) = inl ((λ q. p.0 (g q)), p.1)
head f g (inr p) = inr (f p.0, p.1)

module _ (net : Net) (sound : Sound net) (c d : Curves) where
  wait_same : (b : List ℕ) (e j t : ℕ) → Entrance net e j → Agree net c d t → waiting net c b j t ≡ waiting net d b j t
  wait_same b e j t en g = ap (λ n. drop n b) (u_same net sound c d t g j t (left_from net e j (subst (In j) (sym en.1) (inl refl))).0 (omega arith))

  last_same : (i t : ℕ) → i < net.links → Agree net c d t → last_travel net c i t ≡ last_travel net d i t
  last_same i zero k g = refl
  last_same i (suc t) k g = travel_same net sound c d t (less net c d (t + 1) (suc t) (omega arith) g) i k

  state_same : (i t : ℕ) → i < net.links → Agree net c d t → state_of net c i t ≡ state_of net d i t
  state_same i t k g = λ z. record {
    on = length ((g t i (omega arith) k).0 z);
    off = (g t i (omega arith) k).1 z;
    arrived = length ((g (t - (net.link i).free) i (omega arith) k).0 z);
    queue = length ((g (t - (net.link i).free) i (omega arith) k).0 z) - (g t i (omega arith) k).1 z;
    travel = last_same i t k g z;
  }

  pub answers_same : (h : History) (event : Event) → Agree net c d (clock (event ∷ h)) → Answers net c h event → Answers net d h event
  answers_same h (book e x n r) g p = tail (tail (tail (tail (head
      (λ f j en. subst (λ (w : List ℕ). length w + n ≤ 500) (wait_same (booked h (clock h) e) e j (clock h) en g) (f j en))
      (λ f j en. subst (λ (w : List ℕ). length w + n ≤ 500) (sym (wait_same (booked h (clock h) e) e j (clock h) en g)) (f j en)))))) p
  answers_same h (step m rows (told u) m' rows') g p =
      (tail (tail (λ z. (law_same net sound c d (clock h) g (booked h (clock h)) m z.0, filled_same net sound c d (clock h) g rows rows' z.1, asked_same net sound c d (clock h) g m m' z.2, z.3))) p.0, p.1)
  answers_same h (step m rows (refused k) m' rows') g p = p
  answers_same h (ask_link i (told s)) g (inl p) = inl p
  answers_same h (ask_link n (told s)) g (inr p) = inr (p.0, p.1 ∙ state_same (n - 1) (clock h) (omega arith) g)
  answers_same h (ask_link i (refused k)) g p = p
  answers_same h (ask_entrance e (told s)) g p = tail (λ f j en. f j en ∙ ap length (wait_same (booked h (clock h) e) e j (clock h) en g)) p
  answers_same h (ask_entrance e (refused k)) g p = p
  answers_same h (ask_exit x r) g p = p

  shorter : (event : Event) (h : History) → clock h ≤ clock (event ∷ h)
  shorter (book e x n r) h = omega arith
  shorter (step m rows (told u) m' rows') h = omega arith
  shorter (step m rows (refused k) m' rows') h = omega arith
  shorter (ask_link i r) h = omega arith
  shorter (ask_entrance e r) h = omega arith
  shorter (ask_exit x r) h = omega arith

  pub follows_same : (h : History) → Agree net c d (clock h) → Follows net c h → Follows net d h
  follows_same [] g f = record { came = λ i k. sym (g 0 i (omega arith) k).0 ∙ f.came i k; left = λ i k. sym (g 0 i (omega arith) k).1 ∙ f.left i k }
  follows_same (event ∷ h) g f = (follows_same h (less net c d (clock h) (clock (event ∷ h)) (shorter event h) g) f.0, answers_same h event g f.1)

-- the curves taken on from the clock t by one reading more
abbrev pub extended : Curves → ℕ → (ℕ → List Vehicle) → (ℕ → ℕ) → Curves
extended c t came left = record { came = λ i s. cond (leb s t) (c.came i s) (came i); left = λ i s. cond (leb s t) (c.left i s) (left i) }

pub extended_before : (net : Net) (c : Curves) (t : ℕ) (came : ℕ → List Vehicle) (left : ℕ → ℕ) → Agree net c (extended c t came left) t
extended_before net c t came left s i l k = rw (le-leb s t l) (refl, refl)

pub extended_came : (c : Curves) (t : ℕ) (came : ℕ → List Vehicle) (left : ℕ → ℕ) (i : ℕ) → (extended c t came left).came i (t + 1) ≡ came i
extended_came c t came left i = rw (lt-leb (t + 1) t (omega arith))

pub extended_left : (c : Curves) (t : ℕ) (came : ℕ → List Vehicle) (left : ℕ → ℕ) (i : ℕ) → (extended c t came left).left i (t + 1) ≡ left i
extended_left c t came left i = rw (lt-leb (t + 1) t (omega arith))

-- a step that the code makes takes the plain run on
pub taken_on : (net : Net) (sound : Sound net) (c : Curves) (h : History) (came : ℕ → List Vehicle) (left : ℕ → ℕ) (m m' : Meaning) (rows rows' : List StepRow)
    → Follows net c h → Answers net (extended c (clock h) came left) h (step m rows (told tt) m' rows')
    → Follows net (extended c (clock h) came left) (step m rows (told tt) m' rows' ∷ h)
taken_on net sound c h came left m m' rows rows' f p = (follows_same net sound c (extended c (clock h) came left) h (extended_before net c (clock h) came left) f, p)
