-- Calls one after another.
use Rattle.std.proofs.Common.{◌≡◌, ℕ, Result, Option, Some, None, ◌+◌, ◌<◌, ◌≤◌, ◌≢◌, List, ◌∷◌, length, get_or, set, sym, ◌∙◌, refl, subst, add-one, arith}
use Rattle.std.proofs.lemmas.List.{get_or-set_same, get_or-set_other}
use Rattle.merge.specs.Rules.{Meaning}
use Rattle.network.specs.Net.{Net, Sound}
use Rattle.newell.specs.declared.records.StepRow.{StepRow}
use Rattle.newell.specs.History.{History}
use Rattle.newell.specs.Now.{RunNow, Ran, Opened}
use Rattle.newell.proofs.Telling.{each_moment}
use Rattle.script.specs.declared.call.Call.{Call}
use Rattle.script.specs.declared.call.Call.TheVariants.{Step}
use Rattle.run.specs.declared.store.Refusal.{Refusal}
use Rattle.script.specs.declared.call.Outcome.{Outcome}
use Rattle.script.specs.Scripts.{Called, Played, none, more, Promised}

module _ (net : Net) (m₀ : Meaning) (rows₀ : List StepRow) (r₀ : RunNow) (calls : List Call) (answers : List (Option (Result Outcome Refusal))) where
  -- they are carried one by one
  pub played_ran : {n : ℕ} {h : History} {m : Meaning} {rows : List StepRow} {r : RunNow} → Played net m₀ rows₀ r₀ calls answers n h m rows r → Ran net r₀ h r
  played_ran none = refl
  played_ran (more {r = r} m' rows' r' event a p e k f) = (r, played_ran p, f)

  -- an answer at a later place is not looked at
  pub played_set : (i : ℕ) (b : Option (Result Outcome Refusal)) {n : ℕ} {h : History} {m : Meaning} {rows : List StepRow} {r : RunNow} → n ≤ i
      → Played net m₀ rows₀ r₀ calls answers n h m rows r → Played net m₀ rows₀ r₀ calls (set answers i b) n h m rows r
  played_set i b l none = none
  played_set i b l (more {n = n} m' rows' r' event a p e k f) =
      let ne : n ≢ i = omega arith in
      more m' rows' r' event a (played_set i b (omega arith) p) (get_or-set_other answers i n b None ne ∙ e) k f

  -- one call more
  pub played_more : (net₁ : Net) → net₁ ≡ net → (n : ℕ) (m m' : Meaning) (rows rows' : List StepRow) (r r' : RunNow) (c : Call) (a : Result Outcome Refusal) → n < length answers
      → c ≡ get_or calls n Step → ((h : History) × Played net m₀ rows₀ r₀ calls answers n h m rows r) → Called net₁ m rows r c a m' rows' r'
      → (h : History) × Played net m₀ rows₀ r₀ calls (set answers n (Some a)) (n + 1) h m' rows' r'
  played_more net₁ e n m m' rows rows' r r' c a l i p q =
      let z : Called net m rows r (get_or calls n Step) a m' rows' r' = subst (λ c. Called net m rows r c a m' rows' r') i (subst (λ (u : Net). Called u m rows r c a m' rows' r') e q) in
      let w = more m' rows' r' z.event a (played_set n (Some a) (omega arith) p.1) (get_or-set_same answers n (Some a) None l) z.makes z.carries in
      (z.event ∷ p.0, subst (λ k. Played net m₀ rows₀ r₀ calls (set answers n (Some a)) k (z.event ∷ p.0) m' rows' r') (sym (add-one n)) w)

  -- the promise for them all
  pub promised : (m : Meaning) (rows : List StepRow) (r : RunNow) → Sound net → Opened net r₀ → ((h : History) × Played net m₀ rows₀ r₀ calls answers (length calls) h m rows r)
      → Promised net m₀ rows₀ calls answers m rows
  promised m rows r s o p = record { history = p.0; first = r₀; last = r; opened = o; played = p.1; moments = each_moment net s r₀ r o p.0 (played_ran p.1) }

  pub promised_at : (net₁ : Net) → net₁ ≡ net → (m : Meaning) (rows : List StepRow) (r : RunNow) → Sound net → Opened net r₀
      → ((h : History) × Played net₁ m₀ rows₀ r₀ calls answers (length calls) h m rows r) → Promised net m₀ rows₀ calls answers m rows
  promised_at net₁ e m rows r s o p = promised m rows r s o (subst (λ (u : Net). (h : History) × Played u m₀ rows₀ r₀ calls answers (length calls) h m rows r) e p)
