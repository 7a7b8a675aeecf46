use Rattle.std.proofs.Common.{◌≡◌, ℕ, ◌<◌, ◌≤◌, length, get_or, None}
use Rattle.newell.specs.declared.records.StepRow.{StepRow}
use Rattle.links.specs.Yards.{holds, gauge_of}
use Rattle.step.specs.Notes.{Written, Still}
use Rattle.step.proofs.note.note_all.Given as goal

abbrev pub invariant-loop-i : goal.invariant-loop-i
invariant-loop-i l = record {
  written : (k : ℕ) → k < l.i → (d : StepRow) → Written (gauge_of l.initial.yard k) (get_or l.outs k 0) (length (holds l.initial.yard k)) (get_or l.times k None) (get_or l.row-items k d) (gauge_of l.yard k);
  later : (k : ℕ) → l.i ≤ k → gauge_of l.yard k ≡ gauge_of l.initial.yard k;
  still : Still l.initial.yard l.yard;
}
