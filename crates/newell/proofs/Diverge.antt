-- A count that stops at the first vehicle that finds its link full gives the greatest.
use Rattle.newell.specs.declared.records.Vehicle.{Vehicle}
use Rattle.std.proofs.Common.{◌≡◌, ℕ, ◌+◌, ◌<◌, ◌≤◌, ◌⊎◌, List, length, take, sym, subst, inl, inr, le_trans, arith}
use Rattle.std.proofs.lemmas.List.Sums.{length-filter, sum_by-take-le}
use Rattle.std.proofs.lemmas.List.{take-take}
use Rattle.std.proofs.lemmas.Bool.{cases_lt}
use Rattle.network.specs.Net.{Net}
use Rattle.newell.specs.Plain.{towards, Greatest}
use Rattle.newell.specs.Now.{RunNow, sends, Fit}

fewer : (net : Net) (i j k m : ℕ) (vs : List Vehicle) → k ≤ m → length (towards net i j (take k vs)) ≤ length (towards net i j (take m vs))
fewer net i j k m vs l = subst (λ (ws : List Vehicle). length (towards net i j ws) ≤ length (towards net i j (take m vs))) (take-take k m vs l)
    (simp length-filter (sum_by-take-le _ (take m vs) k))

pub fit_down : (net : Net) (r : RunNow) (i j j' k m : ℕ) → k ≤ m → Fit net r i j j' m → Fit net r i j j' k
fit_down net r i j j' k m l f = record {
  sent = le_trans l f.sent;
  one = le_trans (fewer net i j k m (r.link i).cars l) f.one;
  other = le_trans (fewer net i j' k m (r.link i).cars l) f.other;
}

pub stops : (net : Net) (r : RunNow) (i j j' k : ℕ) → Fit net r i j j' k → (k ≡ sends net r i) ⊎ (Fit net r i j j' (k + 1) → ⊥) → Greatest (Fit net r i j j') k
stops net r i j j' k f (inl e) = record { holds = f; most = λ m p. subst (λ s. m ≤ s) (sym e) p.sent }
stops net r i j j' k f (inr e) = record { holds = f; most = λ m p. go m p (cases_lt k m) }
  where
    go : (m : ℕ) → Fit net r i j j' m → (k < m) ⊎ (m ≤ k) → m ≤ k
    go m p (inl l) = absurd (e (fit_down net r i j j' (k + 1) m (omega arith) p))
    go m p (inr l) = l
