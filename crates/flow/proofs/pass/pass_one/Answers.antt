use Rattle.std.proofs.Common.{refl, arith}
use Rattle.network.specs.Net.{next}
use Rattle.network.specs.Nets.{net_of}
use Rattle.network.proofs.Rights.{right_of}
use Rattle.flow.proofs.Passing.{sent_one, gone_of}
use Rattle.flow.proofs.pass.pass_one.Goals as goal

pub returns-in-Some : goal.returns-in-Some
returns-in-Some c =
    let net = net_of c.args.net.now in
    let y = c.args.yard.now in
    let v = c.in-Some.v in
    let e = c.in-Some.ensures.told in
    sent_one net c.args.t.clock c.args.i y c.take.new.self c.go_on.new.yard v (omega (arith, c.requires.link, (right_of c.args.net.now).count)) e c.in-Some.ensures.put c.in-Some.ensures.spots
    (gone_of net c.args.t.clock c.args.i v.exit c.take.new.self c.go_on.new.yard (next net c.args.i v.exit) refl c.go_on.ensures)
    (λ f. (c.requires.room c.args.i f).1 refl)
