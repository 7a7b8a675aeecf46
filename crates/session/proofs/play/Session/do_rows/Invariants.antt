use Rattle.std.proofs.Common.{◌≡◌, ◌-◌, length}
use Rattle.session.proofs.play.Session.do_rows.Given as goal

abbrev pub invariant-loop-row : goal.invariant-loop-row
invariant-loop-row l = l.reader.file.now ≡ l.initial.reader.file.now

-- what is left of the file
abbrev pub decreases-loop-row : goal.decreases-loop-row
decreases-loop-row l = length l.initial.reader.file.now - l.reader.at.place
