-- Counting those that may pass a diverge.
use Rattle.std.proofs.Common.{◌≡◌, ℕ, ◌+◌, ◌-◌, ◌<◌, ◌≤◌, cond, ◌⊎◌, List, length, get_or, take, Option, sym, ap, ◌∙◌, inl, inr, arith}
use Rattle.std.proofs.lemmas.List.Filters.{length-filter_more}
use Rattle.newell.specs.declared.records.Vehicle.{Vehicle}
use Rattle.network.specs.Net.{Net, next, is}
use Rattle.newell.specs.Plain.{towards, Greatest}
use Rattle.newell.specs.Now.{RunNow, sends, takes, Fit}
use Rattle.newell.proofs.Diverge.{stops}

pub count_more : (net : Net) (i j k a : ℕ) (vs : List Vehicle) (v : Vehicle) (to : Option ℕ) → k < length vs → v ≡ get_or vs k (record { exit = 0; since = 0 }) → to ≡ next net i v.exit → a ≡ cond (is to j) 1 0
    → length (towards net i j (take (k + 1) vs)) ≡ length (towards net i j (take k vs)) + a
count_more net i j k a vs v to l e f g =
    length-filter_more (λ (u : Vehicle). is (next net i u.exit) j) vs k (record { exit = 0; since = 0 }) l
    ∙ ap (λ n. length (towards net i j (take k vs)) + n) (sym (g ∙ ap (λ (o : Option ℕ). cond {A = ℕ} (is o j) 1 0) (f ∙ ap (λ (u : Vehicle). next net i u.exit) e)))

pub stop_here : (net : Net) (r : RunNow) (i j j' k a b x y : ℕ) → k < sends net r i → x ≡ takes net r j → y ≡ takes net r j'
    → length (towards net i j (take k (r.link i).cars)) ≤ x → length (towards net i j' (take k (r.link i).cars)) ≤ y
    → length (towards net i j (take (k + 1) (r.link i).cars)) ≡ length (towards net i j (take k (r.link i).cars)) + a
    → length (towards net i j' (take (k + 1) (r.link i).cars)) ≡ length (towards net i j' (take k (r.link i).cars)) + b
    → (x - length (towards net i j (take k (r.link i).cars)) < a) ⊎ (y - length (towards net i j' (take k (r.link i).cars)) < b)
    → Greatest (Fit net r i j j') k
stop_here net r i j j' k a b x y l ex ey p q e f w = stops net r i j j' k (record { sent = omega arith; one = omega arith; other = omega arith }) (inr (bad w))
  where
    bad : (x - length (towards net i j (take k (r.link i).cars)) < a) ⊎ (y - length (towards net i j' (take k (r.link i).cars)) < b) → Fit net r i j j' (k + 1) → ⊥
    bad (inl h) z = omega (arith, z.one)
    bad (inr h) z = omega (arith, z.other)
