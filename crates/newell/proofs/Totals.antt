-- Sums over the links, and over the vehicles of lists.
use Rattle.std.proofs.Common.{◌≡◌, ℕ, zero, suc, ◌+◌, ◌<◌, ◌≤◌, Bool, true, false, cond, ◌⊎◌, List, [], ◌∷◌, map, sum_by, filter, sym, refl, ap, ◌∙◌, ap₂, inl, inr, arith}
use Rattle.std.specs.List.{flat_map, AllByRecursion}
use Rattle.std.proofs.lemmas.List.Sums.{sum_by-cons, sum_by-append}
use Rattle.std.proofs.lemmas.Bool.{cases_eq}
use Rattle.network.specs.Net.{places}
pub use Rattle.newell.specs.Promise.{total}

pub total_ext : (n : ℕ) (f g : ℕ → ℕ) → ((i : ℕ) → i < n → f i ≡ g i) → total n f ≡ total n g
total_ext zero f g h = refl
total_ext (suc n) f g h = ap₂ ◌+◌ (total_ext n f g (λ i k. h i (omega arith))) (h n (omega arith))

pub total_le : (n : ℕ) (f g : ℕ → ℕ) → ((i : ℕ) → i < n → f i ≤ g i) → total n f ≤ total n g
total_le zero f g h = omega arith
total_le (suc n) f g h = omega (arith, total_le n f g (λ i k. h i (omega arith)), h n (omega arith))

pub total_add : (n : ℕ) (f g : ℕ → ℕ) → total n (λ i. f i + g i) ≡ total n f + total n g
total_add zero f g = refl
total_add (suc n) f g = omega (arith, total_add n f g)

pub total_two : (n : ℕ) (f g k : ℕ → ℕ) → ((i : ℕ) → i < n → f i ≡ g i + k i) → total n f ≡ total n g + total n k
total_two n f g k h = total_ext n f (λ i. g i + k i) h ∙ total_add n g k

pub total_four : (n : ℕ) (f g k l : ℕ → ℕ) → ((i : ℕ) → i < n → f i + g i ≡ k i + l i) → total n f + total n g ≡ total n k + total n l
total_four n f g k l h = sym (total_add n f g) ∙ total_ext n (λ i. f i + g i) (λ i. k i + l i) h ∙ total_add n k l

pub total_none : (n : ℕ) (f : ℕ → ℕ) → ((i : ℕ) → i < n → f i ≡ 0) → total n f ≡ 0
total_none zero f h = refl
total_none (suc n) f h = omega (arith, total_none n f (λ i k. h i (omega arith)), h n (omega arith))

pub total_swap : (n k : ℕ) (f : ℕ → ℕ → ℕ) → total n (λ i. total k (f i)) ≡ total k (λ j. total n (λ i. f i j))
total_swap zero k f = sym (total_none k _ (λ i h. refl))
total_swap (suc n) k f = omega (arith, total_swap n k f, total_add k (λ j. total n (λ i. f i j)) (f n))

-- one place alone counts
pub total_one : (n : ℕ) (f : ℕ → ℕ) (j : ℕ) → j < n → ((i : ℕ) → i < n → (i ≡ j → ⊥) → f i ≡ 0) → total n f ≡ f j
total_one zero f j h g = absurd (omega arith)
total_one (suc n) f j h g = go (cases_eq j n) (λ k. total_one n f j k (λ i l. g i (omega arith)))
  where
    go : (j ≡ n) ⊎ (j ≡ n → ⊥) → (j < n → total n f ≡ f j) → total n f + f n ≡ f j
    go (inl e) rec = let z = total_none n f (λ i l. g i (omega arith) (λ q. omega arith)) in rw e (omega arith)
    go (inr e) rec = let z = g n (omega arith) (λ q. e (sym q)) in omega (arith, rec (omega arith))

-- one place counts at most as much as all
pub total_at : (n : ℕ) (f : ℕ → ℕ) (j : ℕ) → j < n → f j ≤ total n f
total_at zero f j h = absurd (omega arith)
total_at (suc n) f j h = go (cases_eq j n) (total_at n f j)
  where
    go : (j ≡ n) ⊎ (j ≡ n → ⊥) → (j < n → f j ≤ total n f) → f j ≤ total n f + f n
    go (inl e) rec = rw e (omega arith)
    go (inr e) rec = omega (arith, rec (omega arith))

cond_sum : (b : Bool) (f : ℕ → ℕ) (n : ℕ) → sum_by f (cond b (n ∷ []) []) ≡ cond b (f n) 0
cond_sum true f n = omega arith
cond_sum false f n = refl

pub sum_places : (p : ℕ → Bool) (f : ℕ → ℕ) (n : ℕ) → sum_by f (places p n) ≡ total n (λ i. cond (p i) (f i) 0)
sum_places p f zero = refl
sum_places p f (suc n) = sum_by-append f (places p n) _ ∙ ap₂ ◌+◌ (sum_places p f n) (cond_sum (p n) f n)

module _ {X Y : Type 0} where
  pub sum_map : (w : Y → ℕ) (f : X → Y) (xs : List X) → sum_by w (map f xs) ≡ sum_by (λ x. w (f x)) xs
  sum_map w f [] = refl
  sum_map w f (x ∷ xs) = sum_by-cons w (f x) (map f xs) ∙ ap (λ n. w (f x) + n) (sum_map w f xs) ∙ sym (sum_by-cons (λ x. w (f x)) x xs)

  pub sum_joined : (w : Y → ℕ) (g : X → List Y) (xs : List X) → sum_by w (flat_map g xs) ≡ sum_by (λ x. sum_by w (g x)) xs
  sum_joined w g [] = refl
  sum_joined w g (x ∷ xs) = sum_by-append w (g x) (flat_map g xs) ∙ ap (λ n. sum_by w (g x) + n) (sum_joined w g xs) ∙ sym (sum_by-cons (λ x. sum_by w (g x)) x xs)

module _ {X : Type 0} where
  pub sum_kept : (w : X → ℕ) (p : X → Bool) (xs : List X) → sum_by w (filter p xs) ≡ sum_by (λ x. cond (p x) (w x) 0) xs
  sum_kept w p [] = refl
  sum_kept w p (x ∷ xs) = go (p x) (sum_kept w p xs) ∙ sym (sum_by-cons (λ x. cond (p x) (w x) 0) x xs)
    where
      go : (b : Bool) → sum_by w (filter p xs) ≡ sum_by (λ x. cond (p x) (w x) 0) xs
          → sum_by w (cond b (x ∷ filter p xs) (filter p xs)) ≡ cond b (w x) 0 + sum_by (λ x. cond (p x) (w x) 0) xs
      go true rec = sum_by-cons w x (filter p xs) ∙ ap (λ n. w x + n) rec
      go false rec = omega arith

  pub sum_ext : (f g : X → ℕ) (P : X → Type 0) (xs : List X) → ((x : X) → P x → f x ≡ g x) → AllByRecursion P xs → sum_by f xs ≡ sum_by g xs
  sum_ext f g P [] h k = refl
  sum_ext f g P (x ∷ xs) h k = sum_by-cons f x xs ∙ ap₂ ◌+◌ (h x k.0) (sum_ext f g P xs h k.1) ∙ sym (sum_by-cons g x xs)

  pub sum_add : (f g : X → ℕ) (xs : List X) → sum_by (λ x. f x + g x) xs ≡ sum_by f xs + sum_by g xs
  sum_add f g [] = refl
  sum_add f g (x ∷ xs) = omega (arith, sum_by-cons (λ x. f x + g x) x xs, sum_by-cons f x xs, sum_by-cons g x xs, sum_add f g xs)

  pub sum_two : (f g k : X → ℕ) (P : X → Type 0) (xs : List X) → ((x : X) → P x → f x ≡ g x + k x) → AllByRecursion P xs → sum_by f xs ≡ sum_by g xs + sum_by k xs
  sum_two f g k P xs h a = sum_ext f (λ x. g x + k x) P xs h a ∙ sum_add g k xs

  pub sum_none : (xs : List X) → sum_by {X = X} (λ x. 0) xs ≡ 0
  sum_none [] = refl
  sum_none (x ∷ xs) = sum_none xs

  pub total_sum : (n : ℕ) (f : ℕ → X → ℕ) (xs : List X) → total n (λ j. sum_by (f j) xs) ≡ sum_by (λ x. total n (λ j. f j x)) xs
  total_sum zero f xs = sym (sum_none xs)
  total_sum (suc n) f xs = omega (arith, total_sum n f xs, sum_add (λ x. total n (λ j. f j x)) (f n) xs)
