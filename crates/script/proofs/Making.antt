-- What one call answers, and its event.
use Rattle.std.proofs.Common.{◌≡◌, Result, Ok, Err, MatchResult, IsOkAnd, List, sym, subst}
use Rattle.merge.specs.Rules.{Meaning}
use Rattle.network.specs.Net.{Net}
use Rattle.newell.specs.declared.records.StepRow.{StepRow}
use Rattle.newell.specs.History.{Reply, Event}
use Rattle.newell.specs.Now.{RunNow, Carries}
use Rattle.script.specs.Scripts.{Makes}
use Rattle.script.specs.declared.call.Call.{Call}
use Rattle.run.specs.declared.store.Refusal.{Refusal}
use Rattle.script.specs.declared.call.Outcome.{Outcome}
use Rattle.script.specs.Scripts.{Called}

-- what the answer of a call says, where the run's reply was mapped to an outcome
pub said : {A : Type 0} (Says : Result Outcome Refusal → Reply A → Type 0) (reply : Result A Refusal → Reply A) (outcome : A → Outcome)
    → ((x : A) → Says (Ok (outcome x)) (reply (Ok x))) → ((q : Refusal) → Says (Err q) (reply (Err q)))
    → (r : Result A Refusal) (a : Result Outcome Refusal) → MatchResult r (λ x. IsOkAnd a (λ o. o ≡ outcome x)) (λ q. a ≡ Err q) → Says a (reply r)
said Says reply outcome done refuse (Ok x) (Ok o) h = subst (λ o. Says (Ok o) (reply (Ok x))) (sym h) (done x)
said Says reply outcome done refuse (Ok x) (Err q) h = absurd h
said Says reply outcome done refuse (Err q) a h = subst (λ a. Says a (reply (Err q))) (sym h) (refuse q)

-- the call that was made, by its event
pub called : {net : Net} {m m' : Meaning} {rows rows' : List StepRow} {r r' : RunNow} (c made : Call) (a : Result Outcome Refusal) (event : Event)
    → c ≡ made → Makes m rows m' rows' made a event → Carries net r event r' → Called net m rows r c a m' rows' r'
called {net} {m} {m'} {rows} {rows'} {r} {r'} c made a event is makes carries =
    subst (λ c. Called net m rows r c a m' rows' r') (sym is) (record { event = event; makes = makes; carries = carries })
