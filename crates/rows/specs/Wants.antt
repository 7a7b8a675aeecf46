-- What the words behind a row's name have to be.
use Rattle.std.specs.Prelude.{◌≡◌, ℕ, ◌≤◌, ◌⊎◌, List, [], ◌∷◌}
use Rattle.words.specs.Lines.{Spot}
use Rattle.rows.specs.declared.kind.Kind.{Kind}
use Rattle.rows.specs.declared.kind.Kind.TheVariants.{Net, Link, Route, Merge, Meter, Go, Book, Step, Show}
use Rattle.rows.specs.declared.row.Row.{Row}
use Rattle.rows.specs.Rows.{Field, number, rule, written, kind_of, fields_of}

-- a number in a range, or a rule's name
pub data Want : Type 0 where
  between : ℕ → ℕ → Want
  rule_name : Want

abbrev pub Allows : Want → Field → Type 0
Allows (between lo hi) (number n) = (lo ≤ n) × (n ≤ hi)
Allows (between lo hi) (rule r) = ⊥
Allows rule_name (number n) = ⊥
Allows rule_name (rule r) = Unit {0}

-- by the counts of nodes and links that the `net` row gives
abbrev pub wants : ℕ → ℕ → Kind → List Want
wants nodes links Net = between 2 32 ∷ between 1 48 ∷ []
wants nodes links Link = between 1 nodes ∷ between 1 nodes ∷ between 1 63 ∷ between 1 63 ∷ between 1 200 ∷ between 1 2000 ∷ []
wants nodes links Route = between 1 nodes ∷ between 1 nodes ∷ between 1 links ∷ []
wants nodes links Merge = rule_name ∷ []
wants nodes links Meter = between 1 nodes ∷ between 1 200 ∷ between 1 63 ∷ []
wants nodes links Go = []
wants nodes links Book = between 0 65535 ∷ between 0 65535 ∷ between 0 65535 ∷ []
wants nodes links Step = between 1 65535 ∷ []
wants nodes links Show = []

-- each field is what is wanted there
abbrev pub Allowed : List Want → List Field → Type 0
Allowed [] [] = Unit {0}
Allowed [] (f ∷ fs) = ⊥
Allowed (w ∷ ws) [] = ⊥
Allowed (w ∷ ws) (f ∷ fs) = Allows w f × Allowed ws fs

-- the fields of a row lie in their ranges
abbrev pub Ranged : ℕ → ℕ → Row → Type 0
Ranged nodes links r = Allowed (wants nodes links (kind_of r)) (fields_of r)

-- a word is the text of a field that is wanted
abbrev pub Fits : Want → List ℕ → Type 0
Fits w t = (f : Field) × (t ≡ written f) × Allows w f

-- at place q stands a word that is not what is wanted there
abbrev pub Unfit : List Want → List Spot → ℕ → Type 0
Unfit [] ws q = ⊥
Unfit (r ∷ rs) [] q = ⊥
Unfit (r ∷ rs) (w ∷ ws) q = ((q ≡ w.place) × (Fits r w.text → ⊥)) ⊎ Unfit rs ws q
