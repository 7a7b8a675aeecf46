-- A check of the definitions on cases worked by hand: a corridor of two entrances, a merge and an exit, and a diverge with a blocked vehicle.
use Rattle.newell.specs.declared.records.LinkState.{LinkState}
use Rattle.newell.specs.declared.records.StepRow.{StepRow}
use Rattle.network.specs.declared.link.Link.{Link}
use Rattle.std.specs.Prelude.{◌≡◌, ℕ, zero, suc, List, [], ◌∷◌, map, replicate, Some, None, Option, ◌≢◌, slice_index_or}
use Rattle.network.specs.Net.{Net, next}
use Rattle.merge.specs.Sharing.{fair_meaning}
use Rattle.newell.specs.Plain.{Curves, S, R, on, exits, Passable, Greatest}
use Rattle.newell.specs.History.{History, Event, book, step, ask_link, ask_entrance, ask_exit, told, call, booked, blank, Follows}
use Rattle.newell.specs.Promise.{Empty}

-- from, to, free steps, wave steps, capacity, storage
abbrev pub road : ℕ → Link
road zero = record { from = 1; to = 3; free = 1; wave = 2; capacity = 4; storage = 12 }
road (suc zero) = record { from = 2; to = 3; free = 1; wave = 1; capacity = 2; storage = 4 }
road (suc (suc i)) = record { from = 3; to = 4; free = 2; wave = 2; capacity = 3; storage = 8 }

abbrev pub corridor : Net
corridor = record { nodes = 4; links = 3; link = road; route = λ n x. None }

-- the rows that the step from each clock leaves: for each link came on, left, travel time
abbrev pub row : ℕ → ℕ → Option ℕ → StepRow
row came left travel = record { came = came; left = left; travel = travel }

abbrev pub rows_at : ℕ → List StepRow
rows_at t = slice_index_or (
    (row 4 0 None ∷ row 2 0 None ∷ row 0 0 None ∷ [])
    ∷ (row 2 2 (Some 1) ∷ row 1 1 (Some 1) ∷ row 3 0 None ∷ [])
    ∷ (row 0 2 (Some 2) ∷ row 0 1 (Some 2) ∷ row 3 0 None ∷ [])
    ∷ (row 0 1 (Some 2) ∷ row 0 1 (Some 2) ∷ row 2 3 (Some 2) ∷ [])
    ∷ (row 0 0 None ∷ row 0 0 None ∷ row 0 3 (Some 2) ∷ [])
    ∷ (row 0 1 (Some 4) ∷ row 0 0 None ∷ row 1 2 (Some 2) ∷ [])
    ∷ (row 0 0 None ∷ row 0 0 None ∷ row 0 0 None ∷ [])
    ∷ (row 0 0 None ∷ row 0 0 None ∷ row 0 1 (Some 2) ∷ [])
    ∷ []) t []

abbrev pub step_from : ℕ → Event
step_from t = step fair_meaning (replicate 3 blank) (told tt) fair_meaning (rows_at t)

abbrev pub tells : ℕ → ℕ → ℕ → ℕ → Option ℕ → LinkState
tells on off arrived queue travel = record { on = on; off = off; arrived = arrived; queue = queue; travel = travel }

-- Under `fair`, six vehicles are booked at 1 and three at 2, all for 4; after four steps every question is asked; then come four steps more. The last call first.
abbrev pub worked : History
worked =
    step_from 7 ∷ step_from 6 ∷ step_from 5 ∷ step_from 4
    ∷ ask_exit 4 (told 3) ∷ ask_entrance 2 (told 0) ∷ ask_entrance 1 (told 0)
    ∷ ask_link 3 (told (tells 8 3 3 0 (Some 2))) ∷ ask_link 2 (told (tells 3 3 3 0 (Some 2))) ∷ ask_link 1 (told (tells 6 5 6 1 (Some 2)))
    ∷ step_from 3 ∷ step_from 2 ∷ step_from 1 ∷ step_from 0
    ∷ book 2 4 3 (told tt) ∷ book 1 4 6 (told tt) ∷ []

-- There is a plain run for these calls, with these answers. Every plain run for them answers so; it is empty at clock 8, and not at 7.
pub record CorridorWorked : Type 0 where
  pub runs : (c : Curves) × Follows corridor c worked
  pub answers : (h : History) (c : Curves) → map call h ≡ map call worked → Follows corridor c h → h ≡ worked
  pub not_yet : (c : Curves) → Follows corridor c worked → Empty corridor c (booked worked 7) 7 → ⊥
  pub empty : (c : Curves) → Follows corridor c worked → Empty corridor c (booked worked 8) 8

-- Of vehicles for p, p, q, p three pass, where four may be sent and two taken towards p and five towards q: the fourth finds its link full.
abbrev pub DivergeWorked : Type 0
DivergeWorked = (net : Net) (c : Curves) (i j j' t p q : ℕ) → next net i p ≡ Some j → next net i q ≡ Some j' → (j ≢ j')
    → exits (on net c i t) ≡ p ∷ p ∷ q ∷ p ∷ [] → S net c i t ≡ 4 → R net c j t ≡ 2 → R net c j' t ≡ 5 → Greatest (Passable net c i j j' t) 3
