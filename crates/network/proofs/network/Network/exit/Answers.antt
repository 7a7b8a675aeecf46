use Rattle.std.proofs.Common.{sym, subst}
use Rattle.network.specs.Net.{exit, Exit}
use Rattle.network.specs.Nets.{net_of, Found}
use Rattle.network.proofs.network.Network.exit.Goals as goal

pub returns-in_err-from : goal.returns-in_err-from
returns-in_err-from c = subst (λ o. Found o (Exit (net_of c.args.self.now) c.args.x)) (sym c.from_residual.ensures) (λ i h. c.in_err-from.ensures (exit i h.0 h.1))
