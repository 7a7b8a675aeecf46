use Rattle.std.proofs.Common.{arith}
use Rattle.network.proofs.Rights.{right_of}
use Rattle.network.proofs.Routing.{fits_in, routed_draws, right_routed}
use Rattle.network.proofs.network.Network.put_route.Goals as goal

pub invariant_of-self : goal.invariant_of-self
invariant_of-self c = let n = c.args.self.now in rw (c.from.ensures, c.from-2.ensures) (record { right = ∣ right_routed n.layout (right_of n) c.args.node c.args.exit c.args.link c.requires ∣₁ })

pub returns : goal.returns
returns c = let n = c.args.self.now in rw (c.from.ensures, c.from-2.ensures) (routed_draws n.layout (right_of n) c.args.node c.args.exit c.args.link c.requires)

pub bounds-self-from-2 : goal.bounds-self-from-2
bounds-self-from-2 c = let n = c.args.self.now in let q = fits_in n.layout (right_of n) c.args.node c.args.exit c.args.link c.requires in omega (arith, q.1)
