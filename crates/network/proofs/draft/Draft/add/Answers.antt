use Rattle.std.proofs.Common.{refl, arith}
use Rattle.network.proofs.Growing.{begun_of, begun_more, more_draws}
use Rattle.network.proofs.draft.Draft.add.Goals as goal

pub invariant_of-self : goal.invariant_of-self
invariant_of-self c =
    let d = c.args.self.now in
    let r = c.in_range.ensures.0 c.if-not-in_range.false in
    record { begun = ∣ begun_more d.layout d.wanted c.args.link (begun_of d) c.if-i-self.false r c.if-link.false ∣₁ }

pub returns : goal.returns
returns c =
    let d = c.args.self.now in
    let b = begun_of d in
    let r = c.in_range.ensures.0 c.if-not-in_range.false in
    (c.if-i-self.false, r, c.if-link.false, more_draws d.layout c.args.link (omega (arith, b.whole, b.wanted_most, c.if-i-self.false)), refl)
