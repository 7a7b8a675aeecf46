-- What a row says, field by field, and its text.
use Rattle.std.specs.Prelude.{ℕ, List, [], ◌∷◌, map, codes, decimal}
use Rattle.words.specs.Texts.{line_of}
use Rattle.rows.specs.Kinds.{name_of}
use Rattle.rows.specs.declared.kind.Kind.{Kind}
use Rattle.rows.specs.declared.kind.Kind.TheVariants.{Net, Link, Route, Merge, Meter, Go, Book, Step, Show}
use Rattle.rows.specs.declared.row.Row.{Row}
use Rattle.rows.specs.declared.row.Row.TheVariants as row
use Rattle.rows.specs.declared.row.CallRow.TheVariants as call
use Rattle.merge.specs.declared.choice.Choice.{Choice}
use Rattle.merge.specs.declared.choice.Choice.TheVariants.{Fair, Ramp, Zip}

pub data Field : Type 0 where
  number : ℕ → Field
  rule : Choice → Field

abbrev pub rule_text : Choice → List ℕ
rule_text Fair = codes "fair"
rule_text Ramp = codes "ramp"
rule_text Zip = codes "zip"

-- a number is decimal, without leading zeros
abbrev pub written : Field → List ℕ
written (number n) = decimal n
written (rule r) = rule_text r

abbrev pub kind_of : Row → Kind
kind_of (row.Net n l) = Net
kind_of (row.Link k) = Link
kind_of (row.Route n e k) = Route
kind_of (row.Merge r) = Merge
kind_of (row.Meter n r t) = Meter
kind_of row.Go = Go
kind_of (row.Call (call.Book n e k)) = Book
kind_of (row.Call (call.Step k)) = Step
kind_of (row.Call call.Show) = Show

abbrev pub fields_of : Row → List Field
fields_of (row.Net n l) = number n ∷ number l ∷ []
fields_of (row.Link k) = number k.from ∷ number k.to ∷ number k.free ∷ number k.wave ∷ number k.capacity ∷ number k.storage ∷ []
fields_of (row.Route n e k) = number n ∷ number e ∷ number k ∷ []
fields_of (row.Merge r) = rule r ∷ []
fields_of (row.Meter n r t) = number n ∷ number r ∷ number t ∷ []
fields_of row.Go = []
fields_of (row.Call (call.Book n e k)) = number n ∷ number e ∷ number k ∷ []
fields_of (row.Call (call.Step k)) = number k ∷ []
fields_of (row.Call call.Show) = []

-- the words of a row
abbrev pub spelled : Row → List (List ℕ)
spelled r = name_of (kind_of r) ∷ map written (fields_of r)

-- its text: the words with one space between, and a line feed
abbrev pub text_of : Row → List ℕ
text_of r = line_of (spelled r)
