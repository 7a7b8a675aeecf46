use Rattle.std.proofs.Common.{◌≡◌, ℕ, zero, suc, ◌<◌, Bool, true, false, cond, ◌⊎◌, List, [], ◌∷◌, ◌++◌, sym, refl, ap, ◌∙◌, subst, inl, inr, arith, eq-eqb, eqb-true}
use Rattle.std.proofs.lemmas.Bool.{cases_eq, both_ways}
use Rattle.network.specs.Net.{Net, Sound, Kind, entrance, exit, mainline, merge, diverge, places, entering, leaving}

abbrev pub In : ℕ → List ℕ → Type 0
In i [] = ⊥
In i (x ∷ xs) = (i ≡ x) ⊎ In i xs

pub in_left : (i : ℕ) (xs ys : List ℕ) → In i xs → In i (xs ++ ys)
in_left i [] ys h = absurd h
in_left i (x ∷ xs) ys (inl e) = inl e
in_left i (x ∷ xs) ys (inr h) = inr (in_left i xs ys h)

pub in_right : (i : ℕ) (xs ys : List ℕ) → In i ys → In i (xs ++ ys)
in_right i [] ys h = h
in_right i (x ∷ xs) ys h = inr (in_right i xs ys h)

pub in_places : (p : ℕ → Bool) (n i : ℕ) → i < n → p i ≡ true → In i (places p n)
in_places p zero i h e = absurd (omega arith)
in_places p (suc n) i h e = go (cases_eq i n) (λ k. in_places p n i k e)
  where
    here : (b : Bool) → b ≡ true → In n (cond b (n ∷ []) [])
    here true q = inl refl
    here false q = absurd (both_ways false refl q)

    go : (i ≡ n) ⊎ (i ≡ n → ⊥) → (i < n → In i (places p n)) → In i (places p n ++ cond (p n) (n ∷ []) [])
    go (inl q) rec = in_right i (places p n) _ (subst (λ k. In k (cond (p n) (n ∷ []) [])) (sym q) (here (p n) (ap p (sym q) ∙ e)))
    go (inr q) rec = in_left i (places p n) _ (rec (let k : i ≡ n → ⊥ = q in omega arith))

pub in_both : (i : ℕ) (xs ys : List ℕ) → In i (xs ++ ys) → In i xs ⊎ In i ys
in_both i [] ys h = inr h
in_both i (x ∷ xs) ys (inl e) = inl (inl e)
in_both i (x ∷ xs) ys (inr h) = go (in_both i xs ys h)
  where
    go : In i xs ⊎ In i ys → In i (x ∷ xs) ⊎ In i ys
    go (inl k) = inl (inr k)
    go (inr k) = inr k

in_cond : (b : Bool) (i n : ℕ) → In i (cond b (n ∷ []) []) → (i ≡ n) × (b ≡ true)
in_cond true i n (inl e) = (e, refl)
in_cond true i n (inr h) = absurd h
in_cond false i n h = absurd h

pub from_places : (p : ℕ → Bool) (n i : ℕ) → In i (places p n) → (i < n) × (p i ≡ true)
from_places p zero i h = absurd h
from_places p (suc n) i h = go (in_both i (places p n) _ h) (from_places p n i)
  where
    go : In i (places p n) ⊎ In i (cond (p n) (n ∷ []) []) → (In i (places p n) → (i < n) × (p i ≡ true)) → (i < suc n) × (p i ≡ true)
    go (inl k) rec = let r = rec k in (omega arith, r.1)
    go (inr k) rec = let r = in_cond (p n) i n k in (omega arith, ap p r.0 ∙ r.1)

pub only : (i j : ℕ) → In i (j ∷ []) → i ≡ j
only i j (inl e) = e
only i j (inr h) = absurd h

pub pair : (i j k : ℕ) → In i (j ∷ k ∷ []) → (i ≡ j) ⊎ (i ≡ k)
pair i j k (inl e) = inl e
pair i j k (inr h) = inr (only i k h)

module _ (net : Net) where
  pub enters : (i : ℕ) → i < net.links → In i (entering net (net.link i).to)
  enters i h = in_places _ net.links i h (eq-eqb _ _ refl)

  pub leaves : (i : ℕ) → i < net.links → In i (leaving net (net.link i).from)
  leaves i h = in_places _ net.links i h (eq-eqb _ _ refl)

  pub entered : (n i : ℕ) → In i (entering net n) → (i < net.links) × ((net.link i).to ≡ n)
  entered n i h = let r = from_places _ net.links i h in (r.0, eqb-true _ _ r.1)

  pub left_from : (n i : ℕ) → In i (leaving net n) → (i < net.links) × ((net.link i).from ≡ n)
  left_from n i h = let r = from_places _ net.links i h in (r.0, eqb-true _ _ r.1)

-- the end of a link, and its start, by the kind of the node there
pub data End (net : Net) (i : ℕ) : Type 0 where
  exits : entering net (net.link i).to ≡ i ∷ [] → leaving net (net.link i).to ≡ [] → End net i
  passes : (j : ℕ) → entering net (net.link i).to ≡ i ∷ [] → leaving net (net.link i).to ≡ j ∷ [] → End net i
  first_leg : (i' j : ℕ) → entering net (net.link i).to ≡ i ∷ i' ∷ [] → leaving net (net.link i).to ≡ j ∷ [] → End net i
  second_leg : (i' j : ℕ) → entering net (net.link i).to ≡ i' ∷ i ∷ [] → leaving net (net.link i).to ≡ j ∷ [] → End net i
  branches : (j j' : ℕ) → entering net (net.link i).to ≡ i ∷ [] → leaving net (net.link i).to ≡ j ∷ j' ∷ [] → End net i

pub data Start (net : Net) (j : ℕ) : Type 0 where
  begins : entering net (net.link j).from ≡ [] → leaving net (net.link j).from ≡ j ∷ [] → Start net j
  follows : (i : ℕ) → entering net (net.link j).from ≡ i ∷ [] → leaving net (net.link j).from ≡ j ∷ [] → Start net j
  joins : (i i' : ℕ) → entering net (net.link j).from ≡ i ∷ i' ∷ [] → leaving net (net.link j).from ≡ j ∷ [] → Start net j
  first_branch : (i j' : ℕ) → entering net (net.link j).from ≡ i ∷ [] → leaving net (net.link j).from ≡ j ∷ j' ∷ [] → Start net j
  second_branch : (i j' : ℕ) → entering net (net.link j).from ≡ i ∷ [] → leaving net (net.link j).from ≡ j' ∷ j ∷ [] → Start net j

module _ (net : Net) (sound : Sound net) where
  pub end : (i : ℕ) → i < net.links → End net i
  end i h = go (sound.kind (net.link i).to (let s = sound.link i h in omega arith) (sound.link i h).to_node) (enters net i h)
    where
      two : (i' i'' j : ℕ) → (i ≡ i') ⊎ (i ≡ i'') → entering net (net.link i).to ≡ i' ∷ i'' ∷ [] → leaving net (net.link i).to ≡ j ∷ [] → End net i
      two i' i'' j (inl q) e l = first_leg i'' j (e ∙ ap {B = List ℕ} (λ k. k ∷ i'' ∷ []) (sym q)) l
      two i' i'' j (inr q) e l = second_leg i' j (e ∙ ap {B = List ℕ} (λ k. i' ∷ k ∷ []) (sym q)) l

      one : (i' : ℕ) → entering net (net.link i).to ≡ i' ∷ [] → In i (entering net (net.link i).to) → entering net (net.link i).to ≡ i ∷ []
      one i' e h = e ∙ ap {B = List ℕ} (λ k. k ∷ []) (sym (only i i' (subst (In i) e h)))

      go : Kind net (net.link i).to → In i (entering net (net.link i).to) → End net i
      go (entrance j e l) h = absurd (subst (In i) e h)
      go (exit i' e l) h = exits (one i' e h) l
      go (mainline i' j e l) h = passes j (one i' e h) l
      go (merge i' i'' j e l) h = two i' i'' j (pair i i' i'' (subst (In i) e h)) e l
      go (diverge i' j j' e l) h = branches j j' (one i' e h) l

  pub start : (j : ℕ) → j < net.links → Start net j
  start j h = go (sound.kind (net.link j).from (sound.link j h).from_node (let s = sound.link j h in omega arith)) (leaves net j h)
    where
      two : (i j' j'' : ℕ) → (j ≡ j') ⊎ (j ≡ j'') → entering net (net.link j).from ≡ i ∷ [] → leaving net (net.link j).from ≡ j' ∷ j'' ∷ [] → Start net j
      two i j' j'' (inl q) e l = first_branch i j'' e (l ∙ ap {B = List ℕ} (λ k. k ∷ j'' ∷ []) (sym q))
      two i j' j'' (inr q) e l = second_branch i j' e (l ∙ ap {B = List ℕ} (λ k. j' ∷ k ∷ []) (sym q))

      one : (j' : ℕ) → leaving net (net.link j).from ≡ j' ∷ [] → In j (leaving net (net.link j).from) → leaving net (net.link j).from ≡ j ∷ []
      one j' e h = e ∙ ap {B = List ℕ} (λ k. k ∷ []) (sym (only j j' (subst (In j) e h)))

      go : Kind net (net.link j).from → In j (leaving net (net.link j).from) → Start net j
      go (entrance j' e l) h = begins e (one j' l h)
      go (exit i e l) h = absurd (subst (In j) l h)
      go (mainline i j' e l) h = follows i e (one j' l h)
      go (merge i i' j' e l) h = joins i i' e (one j' l h)
      go (diverge i j' j'' e l) h = two i j' j'' (pair j j' j'' (subst (In j) l h)) e l
