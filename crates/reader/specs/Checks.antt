-- The checks of a row against the rows before it, and the rows that pass them.
use Rattle.std.specs.Prelude.{◌≡◌, ℕ, ◌+◌, ◌≤◌, true, List, [], ◌∷◌, ◌≢◌}
use Rattle.words.specs.Tables.{Check, Passes}
use Rattle.words.specs.declared.fault.Layer.TheVariants.{File}
use Rattle.words.specs.declared.fault.Told.{Told}
use Rattle.network.specs.Drafts.{RouteFits, IsMerge, LowestOdd}
use Rattle.network.specs.Net as network
use Rattle.rows.specs.Kinds.{in_order}
use Rattle.rows.specs.Rows.{kind_of}
use Rattle.rows.specs.Wants.{Ranged}
use Rattle.rows.specs.declared.kind.Stage.TheVariants.{Calls}
use Rattle.rows.specs.declared.row.Row.{Row}
use Rattle.rows.specs.declared.row.Row.TheVariants.{Net, Link, Route, Merge, Meter, Go, Call}
use Rattle.reader.specs.Said.{In, net_said, wanted, stage_of}

-- a link not from a lower to a higher node
abbrev pub Downward : Row → Type 0
Downward r = elim r [ Net n l ↦ ⊥ | Link k ↦ k.to ≤ k.from | Route n x k ↦ ⊥ | Merge u ↦ ⊥ | Meter n u t ↦ ⊥ | Go ↦ ⊥ | Call c ↦ ⊥ ]

-- the last link row
abbrev pub Closes : List Row → Row → Type 0
Closes rows r = elim r [ Net n l ↦ ⊥ | Link k ↦ (net_said rows).links + 1 ≡ wanted rows | Route n x k ↦ ⊥ | Merge u ↦ ⊥ | Meter n u t ↦ ⊥ | Go ↦ ⊥ | Call c ↦ ⊥ ]

-- a node of no kind
abbrev pub Odd : network.Net → ℕ → Type 0
Odd net n = (1 ≤ n) × (n ≤ net.nodes) × (network.Kind net n → ⊥)

-- a route not from a diverge, to an exit, by a link that leaves the diverge
abbrev pub Misrouted : List Row → Row → Type 0
Misrouted rows r = elim r [ Net n l ↦ ⊥ | Link k ↦ ⊥ | Route n x k ↦ (RouteFits (net_said rows) n x k → ⊥) | Merge u ↦ ⊥ | Meter n u t ↦ ⊥ | Go ↦ ⊥ | Call c ↦ ⊥ ]

-- a second route for a node and exit, or a second meter at a node
abbrev pub Twice : List Row → Row → Type 0
Twice rows r = elim r [ Net n l ↦ ⊥ | Link k ↦ ⊥ | Route n x k ↦ (j : ℕ) × In (Route n x j) rows | Merge u ↦ ⊥ | Meter n u t ↦ (v : ℕ) × (s : ℕ) × In (Meter n v s) rows | Go ↦ ⊥ | Call c ↦ ⊥ ]

-- a meter not at a merge
abbrev pub Misplaced : List Row → Row → Type 0
Misplaced rows r = elim r [ Net n l ↦ ⊥ | Link k ↦ ⊥ | Route n x k ↦ ⊥ | Merge u ↦ ⊥ | Meter n u t ↦ (IsMerge (net_said rows) n → ⊥) | Go ↦ ⊥ | Call c ↦ ⊥ ]

-- the checks of a row that starts at p
abbrev pub file_checks : List Row → Row → ℕ → List Check
file_checks rows r p =
    record { number = 21; layer = File; fails = λ q. (q ≡ p) × Downward r }
    ∷ record { number = 22; layer = File; fails = λ q. (q ≡ p) × Closes rows r × ((n : ℕ) × Odd (net_said (r ∷ rows)) n) }
    ∷ record { number = 23; layer = File; fails = λ q. (q ≡ p) × Misrouted rows r }
    ∷ record { number = 24; layer = File; fails = λ q. (q ≡ p) × Twice rows r }
    ∷ record { number = 25; layer = File; fails = λ q. (q ≡ p) × Misplaced rows r }
    ∷ []

-- the fault 22 tells the lowest node of no kind, any other 0
pub record NodeTold (rows : List Row) (r : Row) (t : Told) : Type 0 where
  pub odd : t.number ≡ 22 → LowestOdd (net_said (r ∷ rows)) t.node
  pub other : (t.number ≢ 22) → t.node ≡ 0

-- the row may stand behind these rows, up to and with `go`
pub record Follows (rows : List Row) (r : Row) : Type 0 where
  pub going : stage_of rows ≡ Calls → ⊥
  pub order : in_order (stage_of rows) (kind_of r) ≡ true
  pub ranged : Ranged (net_said rows).nodes (wanted rows) r
  pub passes : (p : ℕ) → Passes (file_checks rows r p)

abbrev pub Sound : List Row → Type 0
Sound [] = Unit {0}
Sound (r ∷ rows) = Sound rows × Follows rows r
