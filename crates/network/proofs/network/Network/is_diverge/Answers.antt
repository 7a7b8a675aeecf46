use Rattle.std.proofs.Common.{false, refl, sym, subst}
use Rattle.std.proofs.lemmas.Bool.{both_ways}
use Rattle.network.specs.Net.{Kind, diverge}
use Rattle.network.specs.Nets.{net_of}
use Rattle.network.specs.Scans.{IsOrNone}
use Rattle.network.proofs.network.Network.is_diverge.Goals as goal

pub returns-in_default-2 : goal.returns-in_default-2
returns-in_default-2 c = (
  (λ e. absurd (both_ways false refl e)),
  (λ d. absurd (subst (IsOrNone (net_of c.args.self.now) c.from.result) c.in_default.is c.node.ensures (subst (Kind (net_of c.args.self.now)) (sym c.from.ensures) (diverge d.0 d.1 d.2 d.3 d.4)))),
)
