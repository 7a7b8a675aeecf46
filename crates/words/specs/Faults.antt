-- What each fault of a word tells.
use Rattle.std.specs.Prelude.{ℕ}
use Rattle.words.specs.declared.fault.Layer.{Layer}
use Rattle.words.specs.declared.fault.Layer.TheVariants.{Word}
use Rattle.words.specs.declared.fault.Told.{Told}
use Rattle.words.specs.declared.fault.WordFault.{WordFault}
use Rattle.words.specs.declared.fault.WordFault.TheVariants.{Byte, Empty, Feed}
use Rattle.words.specs.declared.position.Position.{Position}

abbrev pub position : ℕ → ℕ → Position
position l p = record { line = l; place = p }

abbrev pub told : ℕ → Position → Layer → ℕ → Told
told n a y d = record { number = n; line = a.line; place = a.place; layer = y; node = d }

abbrev pub word_told : WordFault → Told
word_told (Byte a) = told 2 a Word 0
word_told (Empty a) = told 3 a Word 0
word_told (Feed a) = told 4 a Word 0
