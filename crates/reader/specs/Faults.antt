-- What each fault of a file tells.
use Rattle.std.specs.Prelude.{ℕ}
use Rattle.words.specs.Faults.{position, told}
use Rattle.words.specs.declared.fault.Layer.TheVariants as layer
use Rattle.words.specs.declared.fault.Told.{Told}
use Rattle.rows.specs.Faults.{row_told}
use Rattle.reader.specs.declared.fault.FileFault.{FileFault}
use Rattle.reader.specs.declared.fault.FileFault.TheVariants.{Long, Row, End, Link, Node, Route, Again, Meter}

abbrev pub filed : ℕ → ℕ → ℕ → ℕ → Told
filed n l p d = told n (position l p) layer.File d

abbrev pub file_told : FileFault → Told
file_told Long = filed 1 0 0 0
file_told (Row f) = row_told f
file_told (End a) = filed 15 a.line a.place 0
file_told (Link a) = filed 21 a.line a.place 0
file_told (Node a n) = filed 22 a.line a.place n
file_told (Route a) = filed 23 a.line a.place 0
file_told (Again a) = filed 24 a.line a.place 0
file_told (Meter a) = filed 25 a.line a.place 0
