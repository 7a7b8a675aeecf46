-- Curves that follow a history are a lawful timeline.
use Rattle.std.proofs.Common.{◌≡◌, ℕ, zero, suc, ◌+◌, ◌<◌, ◌≤◌, Bool, true, false, cond, ◌&&◌, eqb, leb, ◌⊎◌, List, [], ◌∷◌, ◌++◌, replicate, sym, refl, ap, ◌∙◌, subst, inl, inr, arith, eq-eqb, ne_eqb, le-leb}
use mathlib.Core.Path.{fun_ext}
use borrow.Author.Tests.{lt-leb}
use Rattle.std.specs.List.{AllByRecursion}
use Rattle.std.proofs.ByRecursion.{All-append}
use Rattle.std.proofs.lemmas.List.{append-nil, append_assoc}
use Rattle.std.proofs.lemmas.Bool.{cases_lt, cases_eq}
use Rattle.network.specs.Net.{Net, Served}
use Rattle.merge.specs.Rules.{Meaning, Lawful}
use Rattle.newell.specs.Plain.{Curves, Law}
use Rattle.newell.specs.History.{History, book, step, ask_link, ask_entrance, ask_exit, told, refused, clock, booked, handed, Answers, Follows, Filled, Asked, New}

-- The curves up to the clock T, those booked by each clock, and the rule handed in at each clock, with the laws they keep.
pub record Timeline (net : Net) (c : Curves) (T : ℕ) (booked : ℕ → ℕ → List ℕ) (m : ℕ → Meaning) : Type 0 where
  pub early : T ≤ 1000000
  pub new_came : (i : ℕ) → i < net.links → c.came i 0 ≡ []
  pub new_left : (i : ℕ) → i < net.links → c.left i 0 ≡ 0
  pub law : (t : ℕ) → t < T → Law net c (booked t) (m t) t
  pub keeps : (t : ℕ) → t < T → Lawful (m t)
  pub served : (t e : ℕ) → t ≤ T → AllByRecursion (λ x. (n : ℕ) × Served net e x n) (booked t e)
  pub grows : (t e : ℕ) → t < T → (more : List ℕ) × (booked (t + 1) e ≡ booked t e ++ more)

-- what all bookings so far come to at a later clock does not change
pub booked_late : (h : History) (t u e : ℕ) → clock h ≤ t → clock h ≤ u → booked h t e ≡ booked h u e
booked_late [] t u e a b = refl
booked_late (book e' x n (told _) ∷ h) t u e a b = let r = booked_late h t u e a b in
    rw (r, le-leb (clock h) t a, le-leb (clock h) u b)
booked_late (book e' x n (refused k) ∷ h) t u e a b = booked_late h t u e a b
booked_late (step m rows (told _) m' rows' ∷ h) t u e a b = booked_late h t u e (omega arith) (omega arith)
booked_late (step m rows (refused k) m' rows' ∷ h) t u e a b = booked_late h t u e a b
booked_late (ask_link i r ∷ h) t u e a b = booked_late h t u e a b
booked_late (ask_entrance e' r ∷ h) t u e a b = booked_late h t u e a b
booked_late (ask_exit x r ∷ h) t u e a b = booked_late h t u e a b

-- a booking leaves what was booked by an earlier clock
pub booked_before : (h : History) (e' x n : ℕ) (u : Unit {0}) (t e : ℕ) → t < clock h → booked (book e' x n (told u) ∷ h) t e ≡ booked h t e
booked_before h e' x n u t e a = rw (lt-leb (clock h) t a) (append-nil (booked h t e))

pub booked_grows : (h : History) (t e : ℕ) → (more : List ℕ) × (booked h (t + 1) e ≡ booked h t e ++ more)
booked_grows [] t e = ([], refl)
booked_grows (book e' x n (told u) ∷ h) t e = go (cases_lt t (clock h)) (booked_grows h t e)
  where
    go : (t < clock h) ⊎ (clock h ≤ t) → ((more : List ℕ) × (booked h (t + 1) e ≡ booked h t e ++ more))
        → (more : List ℕ) × (booked (book e' x n (told u) ∷ h) (t + 1) e ≡ booked (book e' x n (told u) ∷ h) t e ++ more)
    go (inl a) r = (
      _,
      ap {B = List ℕ} (λ xs. xs ++ cond (leb (clock h) (t + 1) && eqb e' e) (replicate n x) []) r.1 ∙ append_assoc (booked h t e) r.0 _
          ∙ ap {B = List ℕ} (λ xs. xs ++ (r.0 ++ cond (leb (clock h) (t + 1) && eqb e' e) (replicate n x) [])) (sym (booked_before h e' x n u t e a)),
    )
    go (inr a) r = ([], booked_late (book e' x n (told u) ∷ h) (t + 1) t e (omega arith) a ∙ sym (append-nil _))
booked_grows (book e' x n (refused k) ∷ h) t e = booked_grows h t e
booked_grows (step m rows r m' rows' ∷ h) t e = booked_grows h t e
booked_grows (ask_link i r ∷ h) t e = booked_grows h t e
booked_grows (ask_entrance e' r ∷ h) t e = booked_grows h t e
booked_grows (ask_exit x r ∷ h) t e = booked_grows h t e

-- an accepted call met each need
pub passed : {A P Q : Type 0} {a : A} {k : ℕ} → ((P → ⊥) × (told a ≡ refused k)) ⊎ (P × Q) → P × Q
passed {a} {k} (inl p) = let e : told a ≡ refused k = p.1 in let z : ◌≡◌ {A = ℕ} 0 1 = cc in absurd (omega arith)
passed (inr p) = p

met : (net : Net) (c : Curves) (h : History) (e x n : ℕ) (u : Unit {0}) → Answers net c h (book e x n (told u)) → (k : ℕ) × Served net e x k
met net c h e x n u a = (passed (passed (passed a).1).1).0

pub stepped : (net : Net) (c : Curves) (h : History) (m : Meaning) (rows : List _) (u : Unit {0}) (m' : Meaning) (rows' : List _) → Answers net c h (step m rows (told u) m' rows')
    → Law net c (booked h (clock h)) m (clock h) × Filled net c (clock h) rows rows' × Asked net c (clock h) m m' × Lawful m
stepped net c h m rows u m' rows' a = (passed (passed a.0).1).1

all_same : (P : ℕ → Type 0) (n x : ℕ) → P x → AllByRecursion P (replicate n x)
all_same P zero x p = tt
all_same P (suc n) x p = (p, all_same P n x p)

pub served : (net : Net) (c : Curves) (h : History) → Follows net c h → (t e : ℕ) → AllByRecursion (λ x. (n : ℕ) × Served net e x n) (booked h t e)
served net c [] f t e = tt
served net c (book e' x n (told u) ∷ h) f t e = All-append _ (booked h t e) _ (served net c h f.0 t e) (go (cases_eq e' e) (leb (clock h) t))
  where
    go : (e' ≡ e) ⊎ (e' ≡ e → ⊥) → (b : Bool) → AllByRecursion (λ x. (n : ℕ) × Served net e x n) (cond (b && eqb e' e) (replicate n x) [])
    go (inl q) true = rw (eq-eqb e' e q) (all_same _ n x (subst (λ k. (n : ℕ) × Served net k x n) q (met net c h e' x n u f.1)))
    go (inr q) true = rw (ne_eqb e' e q) tt
    go q false = tt
served net c (book e' x n (refused k) ∷ h) f t e = served net c h f.0 t e
served net c (step m rows r m' rows' ∷ h) f t e = served net c h f.0 t e
served net c (ask_link i r ∷ h) f t e = served net c h f.0 t e
served net c (ask_entrance e' r ∷ h) f t e = served net c h f.0 t e
served net c (ask_exit x r ∷ h) f t e = served net c h f.0 t e

-- what a step's law and its rule's law come to at each clock
Both : (net : Net) (c : Curves) (h : History) (t : ℕ) → Type 0
Both net c h t = Law net c (booked h t) (handed h t) t × Lawful (handed h t)

lawful_at : (net : Net) (c : Curves) (h : History) → Follows net c h → (t : ℕ) → t < clock h → Both net c h t
unfolding Both
lawful_at net c [] f t l = absurd (omega arith)
lawful_at net c (book e' x n (told u) ∷ h) f t l =
    subst (λ (b : ℕ → List ℕ). Law net c b (handed h t) t × Lawful (handed h t)) (sym (fun_ext (λ e. booked_before h e' x n u t e l))) (lawful_at net c h f.0 t l)
lawful_at net c (book e' x n (refused k) ∷ h) f t l = lawful_at net c h f.0 t l
lawful_at net c (step m rows (told u) m' rows' ∷ h) f t l = go (cases_eq t (clock h)) (lawful_at net c h f.0 t)
  where
    go : (t ≡ clock h) ⊎ (t ≡ clock h → ⊥) → (t < clock h → Law net c (booked h t) (handed h t) t × Lawful (handed h t))
        → Law net c (booked h t) (cond (eqb t (clock h)) m (handed h t)) t × Lawful (cond (eqb t (clock h)) m (handed h t))
    go (inl e) rec = rw (eq-eqb t (clock h) e) (subst (λ k. Law net c (booked h k) m k) (sym e) (stepped net c h m rows u m' rows' f.1).0, (stepped net c h m rows u m' rows' f.1).3)
    go (inr e) rec = rw (ne_eqb t (clock h) e) (rec (omega arith))
lawful_at net c (step m rows (refused k) m' rows' ∷ h) f t l = lawful_at net c h f.0 t l
lawful_at net c (ask_link i r ∷ h) f t l = lawful_at net c h f.0 t l
lawful_at net c (ask_entrance e' r ∷ h) f t l = lawful_at net c h f.0 t l
lawful_at net c (ask_exit x r ∷ h) f t l = lawful_at net c h f.0 t l

-- no step is accepted at the clock 1,000,000
pub early : (net : Net) (c : Curves) (h : History) → Follows net c h → clock h ≤ 1000000
early net c [] f = omega arith
early net c (book e x n r ∷ h) f = early net c h f.0
early net c (step m rows (told u) m' rows' ∷ h) f = let p = (passed (passed f.1.0).1).0 in omega arith
early net c (step m rows (refused k) m' rows' ∷ h) f = early net c h f.0
early net c (ask_link n r ∷ h) f = early net c h f.0
early net c (ask_entrance e r ∷ h) f = early net c h f.0
early net c (ask_exit x r ∷ h) f = early net c h f.0

new : (net : Net) (c : Curves) (h : History) → Follows net c h → New net c
new net c [] f = f
new net c (event ∷ h) f = new net c h f.0

pub timeline : (net : Net) (c : Curves) (h : History) → Follows net c h → Timeline net c (clock h) (booked h) (handed h)
unfolding Both
timeline net c h f = record {
  early = early net c h f;
  new_came = (new net c h f).came;
  new_left = (new net c h f).left;
  law = λ t l. (lawful_at net c h f t l).0;
  keeps = λ t l. (lawful_at net c h f t l).1;
  served = λ t e l. served net c h f t e;
  grows = λ t e l. booked_grows h t e;
}
