-- Links counted one by one.
use Rattle.std.proofs.Common.{◌≡◌, ℕ, zero, suc, ◌+◌, ◌≤◌, Bool, true, false, cond, List, [], ◌∷◌, ◌++◌, sym, refl, ap, subst, append-nil, add-one, arith, length, length-append}
use Rattle.network.specs.Net.{places}
use Rattle.network.specs.declared.scan.Few.{Few}
use Rattle.network.specs.declared.scan.Few.TheVariants.{Zero, One, Two, More}
use Rattle.network.specs.Scans.{IsFew, few_count, more_of}

few_length : (f : Few) (xs : List ℕ) → IsFew f xs → few_count f ≡ length xs
few_length Zero xs h = sym (ap length h)
few_length (One i) xs h = sym (ap length h)
few_length (Two i j) xs h = sym (ap length h)
few_length (More i j n) xs h = sym h.1

places_most : (p : ℕ → Bool) (n : ℕ) → length (places p n) ≤ n
places_most p zero = omega arith
places_most p (suc n) = go (p n) (places_most p n)
  where
    go : (b : Bool) → length (places p n) ≤ n → length (places p n ++ cond b (n ∷ []) []) ≤ suc n
    go true h = let e = length-append (places p n) (n ∷ []) in omega arith
    go false h = let e = length-append (places p n) [] in omega arith

pub few_most : (p : ℕ → Bool) (n : ℕ) (f : Few) → IsFew f (places p n) → few_count f ≤ n
few_most p n f h = let e = few_length f (places p n) h in let m = places_most p n in omega arith

longer : (xs : List ℕ) (i j n k : ℕ) → IsFew (More i j n) xs → IsFew (More i j (n + 1)) (xs ++ k ∷ [])
longer [] i j n k h = absurd (let a = h.0 in let b = h.1 in omega arith)
longer (x ∷ []) i j n k h = absurd (let a = h.0 in let b = h.1 in omega arith)
longer (x ∷ y ∷ xs) i j n k h = (let a = h.0 in omega arith, (let b = h.1 in let e = length-append xs (k ∷ []) in omega arith), h.2, h.3)

grown : (xs : List ℕ) (f : Few) (k : ℕ) → IsFew f xs → IsFew (more_of f k) (xs ++ k ∷ [])
grown xs Zero k h = ap (λ (ys : List ℕ). ys ++ k ∷ []) h
grown xs (One i) k h = ap (λ (ys : List ℕ). ys ++ k ∷ []) h
grown xs (Two i j) k h = subst (λ (ys : List ℕ). IsFew (More i j 3) (ys ++ k ∷ [])) (sym h) (omega arith, refl, refl, refl)
grown xs (More i j n) k h = longer xs i j n k h

pub few_more : (p : ℕ → Bool) (i : ℕ) (f : Few) → p i ≡ true → IsFew f (places p i) → IsFew (more_of f i) (places p (i + 1))
few_more p i f e h = rw add-one (subst (λ b. IsFew (more_of f i) (places p i ++ cond b (i ∷ []) [])) (sym e) (grown (places p i) f i h))

pub few_same : (p : ℕ → Bool) (i : ℕ) (f : Few) → p i ≡ false → IsFew f (places p i) → IsFew f (places p (i + 1))
few_same p i f e h = rw add-one (subst (λ b. IsFew f (places p i ++ cond b (i ∷ []) [])) (sym e) (subst (IsFew f) (sym (append-nil (places p i))) h))
