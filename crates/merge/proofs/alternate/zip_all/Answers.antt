use Rattle.std.proofs.Common.{◌≡◌, sym, ◌∙◌, subst, ap, arith}
use Rattle.std.specs.Prelude.{◌+◌, min}
use Rattle.merge.specs.declared.alternate.Zipped.{Zipped}
use Rattle.merge.specs.Turns.{zip_all, zip_counts, Zips}
use Rattle.merge.specs.Zips.{zip_by_numbers, zips}
use Rattle.merge.proofs.Zipping.{from_the_turn}
use Rattle.merge.proofs.alternate.zip_all.Goals as goal

pub returns : goal.returns
returns c =
    let turn = c.args.turn in
    let q = c.args.q in
    let z : Zipped = record { g1 = c.in_order-g1.result.0; g2 = c.in_order-g1.result.1; turn = c.own_part-part.result.turn } in
    let n : c.min-n.result ≡ min (q.s1 + q.s2) q.r = omega (arith, c.min-n.ensures, c.saturating_add.ensures) in
    let e : zip_all turn q ≡ z =
    sym (zip_by_numbers turn q) ∙ ap (λ k. zip_counts turn k q) (sym n)
    ∙ from_the_turn turn _ _ _ q _ _ c.in_order-own.ensures c.own_part-part.ensures.part c.own_part-part.ensures.turn c.in_order-g1.ensures in
    record { value = sym e; law = subst (Zips turn q) e (zips turn q) }
