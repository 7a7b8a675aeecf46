use Rattle.std.proofs.Common.{subst}
use Rattle.network.specs.Layouts.{drawn, IsTold}
use Rattle.network.proofs.Rights.{right_of}
use Rattle.network.proofs.Sorts.{kind_inside}
use Rattle.network.proofs.network.Network.kind.Goals as goal

pub returns : goal.returns
returns c =
    let l = c.args.self.now.layout in
    let n = c.args.n in
    let k = subst (IsTold (drawn l) n) c.unwrap.ensures ((right_of c.args.self.now).kinds n c.requires.least c.requires.most) in
    record { told = c.unwrap.ensures; is = k; inside = kind_inside l n c.unwrap.result k }
