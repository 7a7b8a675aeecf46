use Rattle.words.proofs.Numerals.{Sofar}
use Rattle.words.proofs.word.number.Given as goal

abbrev pub invariant-loop-b : goal.invariant-loop-b
invariant-loop-b l = Sofar l.text l.b-index l.value
