use Rattle.std.proofs.Common.{◌+◌, ◌<◌, map, length, drop, refl, ap, ◌∙◌, arith, length-set}
use Rattle.std.proofs.lemmas.Result.{err_from_is_err_and}
use Rattle.words.specs.Faults.{position}
use Rattle.rows.specs.declared.fault.RowFault.TheVariants.{Value}
use Rattle.fields.specs.Taking.{want}
use Rattle.fields.proofs.Series.{going_on, going_bad, wanted, wanted_so_far}
use Rattle.fields.proofs.fields.numbers.Goals as goal

pub loop-i-preserved : goal.loop-i-preserved
loop-i-preserved g c =
    let told = c.in_ok-out.ensures in
    let i = c.loop-i.i in
    let test : i < length c.args.ranges = omega arith in
    record {
      same_line = told.kept ∙ c.loop-i.invariant.same_line;
      long = length-set c.loop-i.out i _ ∙ c.loop-i.invariant.long;
      going = going_on _ (map want c.args.ranges) (drop (i + 1) (map want c.args.ranges)) _ i c.loop-i.out _ _ _ told.got.word c.loop-i.invariant.going
          (wanted c.args.ranges i _ test) refl
          (wanted_so_far c.args.ranges i _ test)
          (omega (arith, c.loop-i.invariant.long))
          told.got.taken told.got.is.0 told.got.is.1;
    }

pub returns-in_err-out : goal.returns-in_err-out
returns-in_err-out g c =
    let told = c.in_err-out.ensures in
    let i = c.loop-i.i in
    let test : i < length c.args.ranges = omega arith in
    let p = err_from_is_err_and c.from_residual.result c.from_residual.ensures.1 in
    let bad = going_bad _ _ _ _ (map want c.args.ranges) (drop (i + 1) (map want c.args.ranges)) _ i c.loop-i.out _ told.got.word c.loop-i.invariant.going
    (wanted c.args.ranges i _ test) told.got.taken told.got.on told.got.is.1 in
    rw (p.1, p.2) (told.got.word.place, told.got.is.0 ∙ ap (λ l. Value (position l told.got.word.place)) c.loop-i.invariant.same_line, bad)
