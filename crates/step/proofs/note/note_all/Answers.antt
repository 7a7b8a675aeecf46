use Rattle.std.proofs.Common.{◌<◌, ◌≢◌, length, ap, ◌∙◌, arith, length-take}
use Rattle.std.proofs.lemmas.List.{get_or_append_left}
use Rattle.newell.specs.declared.records.StepRow.{StepRow}
use Rattle.step.proofs.Noting.{still_more, note_more}
use Rattle.step.proofs.note.note_all.Goals as goal

pub loop-i-preserved : goal.loop-i-preserved
loop-i-preserved c =
    let i = c.loop-i.i in
    let v = c.loop-i.invariant in
    let e = c.note_one.ensures in
    let y₀ = c.args.yard.now in
    let w = rw c.from.ensures at e.written in
    record {
      written = note_more y₀ c.loop-i.yard c.note_one.new.yard i c.args.outs.now c.args.times.now c.loop-i.row-items c.note_one.result c.count-on_it.result
          (omega arith) (c.count-on_it.ensures ∙ ap length (v.still.holds i)) (v.later i (omega arith)) w e.others v.written;
      later = λ k l. e.others k (let ne : k ≢ i = omega arith in ne) ∙ v.later k (omega arith);
      still = still_more y₀ c.loop-i.yard c.note_one.new.yard v.still e.still;
    }

pub returns-clause-written : goal.returns-clause-written
returns-clause-written c = λ i d l.
    let h : i < c.loop-i.i = omega (arith, length-take {A = StepRow}) in
    let b : i < length c.loop-i.row-items = omega arith in
    rw (get_or_append_left c.loop-i.row-items _ d i b) (c.loop-i.invariant.written i h d)
