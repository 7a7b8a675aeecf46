-- When a line reads as a row, and when it is refused.
use Rattle.std.specs.Prelude.{◌≡◌, ℕ, ◌+◌, true, false, List, [], ◌∷◌, ◌++◌, length, Result, MatchResult, ◌≢◌}
use Rattle.words.specs.Lines.{Spot, words_at, word_checks}
use Rattle.words.specs.Tables.{Check, Refuses}
use Rattle.words.specs.Texts.{Stands}
use Rattle.words.specs.declared.fault.Layer.TheVariants as layer
use Rattle.words.specs.declared.fault.Told.{Told}
use Rattle.rows.specs.Faults.{row_told}
use Rattle.rows.specs.Kinds.{name_of, count_of, in_order}
use Rattle.rows.specs.Rows.{kind_of, text_of}
use Rattle.rows.specs.Wants.{wants, Unfit, Ranged}
use Rattle.rows.specs.declared.fault.RowFault.{RowFault}
use Rattle.rows.specs.declared.kind.Kind.{Kind}
use Rattle.rows.specs.declared.kind.Stage.{Stage}
use Rattle.rows.specs.declared.row.Row.{Row}

-- The row's text stands at place p of the file, the row is in order, and its fields lie in their ranges.
pub record Reads (file : List ℕ) (p : ℕ) (stage : Stage) (nodes links : ℕ) (r : Row) : Type 0 where
  pub text : Stands file p (text_of r)
  pub order : in_order stage (kind_of r) ≡ true
  pub ranged : Ranged nodes links r

abbrev pub Named : List Spot → Kind → Type 0
Named [] k = ⊥
Named (w ∷ ws) k = w.text ≡ name_of k

abbrev pub behind_name : List Spot → List Spot
behind_name [] = []
behind_name (w ∷ ws) = ws

-- the checks of a row that starts at p and has the words ws
abbrev pub row_checks : Stage → ℕ → ℕ → ℕ → List Spot → List Check
row_checks stage nodes links p ws =
    record { number = 11; layer = layer.Row; fails = λ q. (q ≡ p) × ((k : Kind) → Named ws k → ⊥) }
    ∷ record { number = 12; layer = layer.Row; fails = λ q. (q ≡ p) × ((k : Kind) × Named ws k × (in_order stage k ≡ false)) }
    ∷ record { number = 13; layer = layer.Row; fails = λ q. (q ≡ p) × ((k : Kind) × Named ws k × (length ws ≢ count_of k)) }
    ∷ record { number = 14; layer = layer.Row; fails = λ q. (k : Kind) × Named ws k × Unfit (wants nodes links k) (behind_name ws) q }
    ∷ []

-- the checks of the line at place p: first those of its words
abbrev pub line_checks : List ℕ → ℕ → Stage → ℕ → ℕ → List Check
line_checks file p stage nodes links = word_checks file p ++ row_checks stage nodes links p (words_at file p)

-- the table refuses the line l at place p, and the fault tells it
pub record Refused (file : List ℕ) (p l : ℕ) (stage : Stage) (nodes links : ℕ) (t : Told) : Type 0 where
  pub checks : Refuses (line_checks file p stage nodes links) t
  pub line : t.line ≡ l
  pub node : t.node ≡ 0

-- the line at place p reads as a row, and the reader stands at the next line; or it is refused, and the reader stays
abbrev pub ReadRow : List ℕ → ℕ → ℕ → Stage → ℕ → ℕ → ℕ → ℕ → Result Row RowFault → Type 0
ReadRow file p l stage nodes links p' l' r =
    MatchResult r
    (λ x. Reads file p stage nodes links x × (p' ≡ p + length (text_of x)) × (l' ≡ l + 1))
    (λ f. Refused file p l stage nodes links (row_told f) × (p' ≡ p) × (l' ≡ l))
