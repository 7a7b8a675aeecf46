-- What rows say. They stand newest first: `r ∷ rows` is the row r behind the others.
use Rattle.std.specs.Prelude.{◌≡◌, ℕ, ◌+◌, ◌-◌, cond, ◌⊎◌, List, [], ◌∷◌, ◌++◌, Some, None, Option, ◌==◌}
use Rattle.network.specs.Drafts.{bare_net, with_link, with_route}
use Rattle.network.specs.Net as network
use Rattle.merge.specs.declared.choice.Choice.{Choice}
use Rattle.merge.specs.declared.choice.Choice.TheVariants.{Fair}
use Rattle.rows.specs.Rows.{text_of}
use Rattle.rows.specs.declared.kind.Stage.{Stage}
use Rattle.rows.specs.declared.kind.Stage.TheVariants.{Start, Links, Routes, Meters, Calls}
use Rattle.rows.specs.declared.row.Row.{Row}
use Rattle.rows.specs.declared.row.Row.TheVariants.{Net, Link, Route, Merge, Meter, Go, Call}

-- the text of the rows
abbrev pub shown : List Row → List ℕ
shown [] = []
shown (r ∷ rows) = shown rows ++ text_of r

-- the row r is among the rows
abbrev pub In : Row → List Row → Type 0
In r [] = ⊥
In r (x ∷ rows) = (r ≡ x) ⊎ In r rows

-- the network: nodes by the `net` row, then link by link and route by route
abbrev pub net_said : List Row → network.Net
net_said [] = bare_net 0
net_said (r ∷ rows) = elim r [ Net n l ↦ bare_net n | Link k ↦ with_link (net_said rows) k | Route n x k ↦ with_route (net_said rows) n x (k - 1) | Merge u ↦ net_said rows | Meter n u t ↦ net_said rows | Go ↦ net_said rows | Call c ↦ net_said rows ]

-- how many links the `net` row wants
abbrev pub wanted : List Row → ℕ
wanted [] = 0
wanted (r ∷ rows) = elim r [ Net n l ↦ l | Link k ↦ wanted rows | Route n x k ↦ wanted rows | Merge u ↦ wanted rows | Meter n u t ↦ wanted rows | Go ↦ wanted rows | Call c ↦ wanted rows ]

abbrev pub rule_said : List Row → Choice
rule_said [] = Fair
rule_said (r ∷ rows) = elim r [ Net n l ↦ rule_said rows | Link k ↦ rule_said rows | Route n x k ↦ rule_said rows | Merge u ↦ u | Meter n u t ↦ rule_said rows | Go ↦ rule_said rows | Call c ↦ rule_said rows ]

-- the rate and the period of the meter at a node
abbrev pub meters_said : List Row → ℕ → Option (ℕ × ℕ)
meters_said [] m = None
meters_said (r ∷ rows) m = elim r [ Net n l ↦ meters_said rows m | Link k ↦ meters_said rows m | Route n x k ↦ meters_said rows m | Merge u ↦ meters_said rows m | Meter n u t ↦ cond (m == n) (Some (u, t)) (meters_said rows m) | Go ↦ meters_said rows m | Call c ↦ meters_said rows m ]

-- what may stand behind these rows
abbrev pub stage_of : List Row → Stage
stage_of [] = Start
stage_of (r ∷ rows) = elim r [ Net n l ↦ Links | Link k ↦ cond ((net_said rows).links + 1 == wanted rows) Routes Links | Route n x k ↦ Routes | Merge u ↦ Meters | Meter n u t ↦ Meters | Go ↦ Calls | Call c ↦ Calls ]

-- what a corridor is in the words of the law: its network, the rule at its merges, its meters
pub record Said : Type 0 where
  pub net : network.Net
  pub rule : Choice
  pub meters : ℕ → Option (ℕ × ℕ)

abbrev pub said_by : List Row → Said
said_by rows = record { net = net_said rows; rule = rule_said rows; meters = meters_said rows }
