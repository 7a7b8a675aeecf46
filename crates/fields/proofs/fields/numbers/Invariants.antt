use Rattle.std.proofs.Common.{◌≡◌, map, length}
use Rattle.fields.specs.Taking.{want, rest_of}
use Rattle.fields.proofs.Series.{Going}
use Rattle.fields.proofs.fields.numbers.Given as goal

abbrev pub invariant-loop-i : goal.invariant-loop-i
invariant-loop-i g l = record {
  same_line : l.rest.words.at.line ≡ l.initial.rest.words.at.line;
  long : length l.out ≡ g.row.N;
  going : Going (rest_of l.initial.rest) (map want l.range-items) l.i l.out (rest_of l.rest);
}
