use Rattle.std.proofs.Common.{sym, subst}
use Rattle.network.specs.Net.{entrance, Entrance}
use Rattle.network.specs.Nets.{net_of, Found}
use Rattle.network.proofs.network.Network.entrance.Goals as goal

pub returns-in_err-to : goal.returns-in_err-to
returns-in_err-to c = subst (λ o. Found o (Entrance (net_of c.args.self.now) c.args.e)) (sym c.from_residual.ensures) (λ j h. c.in_err-to.ensures (entrance j h.0 h.1))
