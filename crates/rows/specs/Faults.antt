-- What each fault of a row tells.
use Rattle.std.specs.Prelude.{ℕ}
use Rattle.words.specs.Faults.{told, word_told}
use Rattle.words.specs.declared.fault.Layer.TheVariants as layer
use Rattle.words.specs.declared.fault.Told.{Told}
use Rattle.words.specs.declared.position.Position.{Position}
use Rattle.rows.specs.declared.fault.RowFault.{RowFault}
use Rattle.rows.specs.declared.fault.RowFault.TheVariants.{Word, Name, Order, Count, Value}

abbrev pub rowed : ℕ → Position → Told
rowed n a = told n a layer.Row 0

abbrev pub row_told : RowFault → Told
row_told (Word f) = word_told f
row_told (Name a) = rowed 11 a
row_told (Order a) = rowed 12 a
row_told (Count a) = rowed 13 a
row_told (Value a) = rowed 14 a
