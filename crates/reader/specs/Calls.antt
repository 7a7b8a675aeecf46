-- The rows behind `go`.
use Rattle.std.specs.Prelude.{◌≡◌, ℕ, ◌+◌, ◌<◌, ◌≤◌, ◌⊎◌, List, length, Some, None, Option, Result, MatchResult}
use Rattle.words.specs.declared.fault.Told.{Told}
use Rattle.rows.specs.Reading.{Reads, Refused}
use Rattle.rows.specs.Rows.{text_of}
use Rattle.rows.specs.declared.kind.Stage.TheVariants.{Calls}
use Rattle.rows.specs.declared.row.Row.{Row}
use Rattle.rows.specs.declared.row.Row.TheVariants as row
use Rattle.reader.specs.Faults.{filed, file_told}
use Rattle.rows.specs.declared.row.CallRow.{CallRow}
use Rattle.reader.specs.declared.fault.FileFault.{FileFault}

abbrev pub row_of : CallRow → Row
row_of = row.Call

-- a call as a row, with the line and place behind it
pub data CallAnswer : Type 0 where
  call : CallRow → ℕ → ℕ → CallAnswer
  ended : CallAnswer
  fault : Told → CallAnswer

-- the answers that a file can have at line l and place p behind `go`
abbrev pub CallAnswers : List ℕ → ℕ → ℕ → CallAnswer → Type 0
CallAnswers bytes l p (call c l' p') = (length bytes ≤ 65535) × Reads bytes p Calls 0 0 (row_of c) × (l' ≡ l + 1) × (p' ≡ p + length (text_of (row_of c)))
CallAnswers bytes l p ended = (length bytes ≤ 65535) × (p ≡ length bytes)
CallAnswers bytes l p (fault t) = ((65535 < length bytes) × (t ≡ filed 1 0 0 0)) ⊎ ((length bytes ≤ 65535) × (p < length bytes) × Refused bytes p l Calls 0 0 t)

-- a call was read, and the reader stands behind it; or the file is at its end, or a fault, and the reader stays
abbrev pub CallOrEnd : List ℕ → ℕ → ℕ → ℕ → ℕ → Option CallRow → Type 0
CallOrEnd bytes l p l' p' None = CallAnswers bytes l p ended × (l' ≡ l) × (p' ≡ p)
CallOrEnd bytes l p l' p' (Some c) = CallAnswers bytes l p (call c l' p')

abbrev pub NextCall : List ℕ → ℕ → ℕ → ℕ → ℕ → Result (Option CallRow) FileFault → Type 0
NextCall bytes l p l' p' r =
    MatchResult r
    (CallOrEnd bytes l p l' p')
    (λ f. CallAnswers bytes l p (fault (file_told f)) × (l' ≡ l) × (p' ≡ p))
