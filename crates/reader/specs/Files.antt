-- How a corridor file reads, from line l₀ at place p₀ on.
use Rattle.std.specs.Prelude.{◌≡◌, ℕ, ◌+◌, ◌<◌, ◌≤◌, ◌⊎◌, List, ◌∷◌, length, Some, None, Option, Result, MatchResult}
use Rattle.words.specs.Tables.{Refuses}
use Rattle.words.specs.Texts.{Stands}
use Rattle.words.specs.declared.fault.Told.{Told}
use Rattle.network.specs.Nets as nets
use Rattle.merge.specs.Metering.{gates_of}
use Rattle.merge.specs.declared.gate.Gate.{Gate}
use Rattle.rows.specs.Reading.{Reads, Refused as RefusedLine}
use Rattle.rows.specs.declared.kind.Stage.TheVariants.{Calls}
use Rattle.rows.specs.declared.row.Row.{Row}
use Rattle.rows.specs.declared.row.Row.TheVariants.{Go}
use Rattle.reader.specs.Checks.{Sound, file_checks, NodeTold}
use Rattle.reader.specs.Faults.{filed, file_told}
use Rattle.reader.specs.Said.{shown, net_said, wanted, stage_of, Said, said_by}
use Rattle.reader.specs.declared.corridor.Corridor.{Corridor}
use Rattle.words.specs.declared.position.Position.{Position}
use Rattle.reader.specs.declared.fault.FileFault.{FileFault}

-- the file, from l₀ and p₀ up to line l at place p, is the text of these rows, which may stand so
pub record Upto (bytes : List ℕ) (l₀ p₀ : ℕ) (rows : List Row) (l p : ℕ) : Type 0 where
  pub text : Stands bytes p₀ (shown rows)
  pub sound : Sound rows
  pub line : l ≡ l₀ + length rows
  pub place : p ≡ p₀ + length (shown rows)

-- what is refused at line l and place p, behind these rows: a missing `go`, a line, or a row
abbrev pub RefusedAt : List ℕ → List Row → ℕ → ℕ → Told → Type 0
RefusedAt bytes rows l p t =
    ((p ≡ length bytes) × (t ≡ filed 15 l p 0))
    ⊎ (((p < length bytes) × RefusedLine bytes p l (stage_of rows) (net_said rows).nodes (wanted rows) t)
    ⊎ ((r : Row) × Reads bytes p (stage_of rows) (net_said rows).nodes (wanted rows) r × Refuses (file_checks rows r p) t × (t.line ≡ l) × NodeTold rows r t))

-- the first faulty line decides
pub record Refused (bytes : List ℕ) (l₀ p₀ : ℕ) (t : Told) : Type 0 where
  pub rows : List Row
  pub line : ℕ
  pub place : ℕ
  pub read : Upto bytes l₀ p₀ rows line place
  pub going : stage_of rows ≡ Calls → ⊥
  pub here : RefusedAt bytes rows line place t

-- the rows up to and with `go` stand there, and say s; `go` starts at line l and place p
pub record Network (bytes : List ℕ) (l₀ p₀ : ℕ) (s : Said) (l p l' p' : ℕ) : Type 0 where
  pub rows : List Row
  pub head : Upto bytes l₀ p₀ rows l p
  pub whole : Upto bytes l₀ p₀ (Go ∷ rows) l' p'
  pub says : s ≡ said_by (Go ∷ rows)

-- the answers that a file can have
pub data Answer : Type 0 where
  network : Said → ℕ → ℕ → ℕ → ℕ → Answer
  fault : Told → Answer

abbrev pub Answers : List ℕ → ℕ → ℕ → Answer → Type 0
Answers bytes l₀ p₀ (network s l p l' p') = (length bytes ≤ 65535) × Network bytes l₀ p₀ s l p l' p'
Answers bytes l₀ p₀ (fault t) = ((65535 < length bytes) × (t ≡ filed 1 0 0 0)) ⊎ ((length bytes ≤ 65535) × Refused bytes l₀ p₀ t)

-- the rate and the period of a gate
abbrev pub numbers_of : Option Gate → Option (ℕ × ℕ)
numbers_of None = None
numbers_of (Some g) = Some (g.rate, g.period)

abbrev pub said_of : Corridor → Said
said_of c = record { net = nets.net_of c.network; rule = c.rule; meters = λ n. numbers_of (gates_of c.gates n) }

-- a network was read, and the reader stands behind `go`; or a fault leaves all as it was
abbrev pub ReadNetwork : List ℕ → ℕ → ℕ → Corridor → Corridor → ℕ → ℕ → Result Position FileFault → Type 0
ReadNetwork bytes l₀ p₀ c c' l' p' r =
    MatchResult r
    (λ go. Answers bytes l₀ p₀ (network (said_of c') go.line go.place l' p'))
    (λ f. Answers bytes l₀ p₀ (fault (file_told f)) × (c' ≡ c) × (l' ≡ l₀) × (p' ≡ p₀))
