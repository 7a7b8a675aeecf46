use Rattle.std.proofs.Common.{refl, arith}
use Rattle.network.proofs.Growing.{begun_of}
use Rattle.network.proofs.Finishing.{right_kinded}
use Rattle.network.proofs.draft.Draft.finish.Goals as goal

pub invariant_of-result : goal.invariant_of-result
invariant_of-result c =
    let d = c.args.self.now in
    let k = c.in_ok-kinds.ensures in
    record { right = ∣ right_kinded d.layout d.wanted c.in_ok-kinds.kinds (begun_of d) (omega arith) k.0 k.1 ∣₁ }

pub returns : goal.returns
returns c = let b = begun_of c.args.self.now in (omega (arith, b.fits), refl)
