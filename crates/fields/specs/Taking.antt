-- What the words behind a row's name give, taken one by one.
use Rattle.std.specs.Prelude.{◌≡◌, ℕ, ◌<◌, true, false, cond, ◌⊎◌, List, [], ◌∷◌, map, Result, MatchResult, ◌≢◌, nat_le}
use Rattle.words.specs.Faults.{position}
use Rattle.words.specs.Lines.{Spot, words_at}
use Rattle.words.specs.declared.position.Position.{Position}
use Rattle.words.specs.Tables.{First}
use Rattle.rows.specs.Kinds.{name_of, count_of, in_order}
use Rattle.rows.specs.Rows.{Field, number, written}
use Rattle.rows.specs.Wants.{Want, between, Allows, Fits, Unfit}
use Rattle.rows.specs.declared.fault.RowFault.{RowFault}
use Rattle.rows.specs.declared.fault.RowFault.TheVariants.{Name, Order, Count, Value}
use Rattle.rows.specs.declared.kind.Kind.{Kind}
use Rattle.rows.specs.declared.kind.Stage.{Stage}
use Rattle.fields.specs.declared.fields.Range.{Range}
use Rattle.fields.specs.declared.rest.Rest.{Rest}

abbrev pub want : Range → Want
want r = between r.low r.high

abbrev pub numbered : List ℕ → List Field
numbered = map number

-- from 1 on
abbrev pub from_one : ℕ → Range
from_one n = record { low = 1; high = n }

-- the words from place p on of a line that ends at e
abbrev pub left_of : List ℕ → ℕ → ℕ → List Spot
left_of file e p = cond (nat_le p e) (words_at file p) []

-- the words that are left
abbrev pub rest_of : Rest → List Spot
rest_of r = left_of r.words.file.now r.end r.words.at.place

-- the first word that is not what is wanted is refused, and P holds of what is read
abbrev pub Judged : {X : Type 0} → List Want → List Spot → ℕ → Result X RowFault → (X → Type 0) → Type 0
Judged rs ws l r P =
    MatchResult r
    P
    (λ f. (q : ℕ) × (f ≡ Value (position l q)) × First (Unfit rs ws) q)

-- the first of the words ws was taken as a field that is wanted, or refused; ws' are left, from place p' on
pub record Got {X : Type 0} (ws ws' : List Spot) (l p' : ℕ) (answer : Result X RowFault) (w : Want) (field : X → Field) : Type 0 where
  pub word : Spot
  pub taken : ws ≡ word ∷ ws'
  pub on : word.place < p'
  pub is : MatchResult answer (λ x. (word.text ≡ written (field x)) × Allows w (field x)) (λ f. (f ≡ Value (position l word.place)) × (Fits w word.text → ⊥))

-- a name, order and count that are right, or the first of them that is not
abbrev pub Checked : List ℕ → Stage → ℕ → Position → Result Kind RowFault → Type 0
Checked text stage count a r =
    MatchResult r
    (λ k. (text ≡ name_of k) × (in_order stage k ≡ true) × (count ≡ count_of k))
    (λ f.
    (((k : Kind) → text ≢ name_of k) × (f ≡ Name a))
    ⊎ (((k : Kind) × (text ≡ name_of k) × (in_order stage k ≡ false) × (f ≡ Order a))
    ⊎ ((k : Kind) × (text ≡ name_of k) × (in_order stage k ≡ true) × (count ≢ count_of k) × (f ≡ Count a))))
