use Rattle.network.proofs.Fresh.{fresh_right, fresh_draws}
use Rattle.network.proofs.network.Network.fresh.Goals as goal

pub invariant_of-result : goal.invariant_of-result
invariant_of-result c = record { right = ∣ fresh_right c.empty_layout-layout.result c.fresh_kinds-layout.result c.empty_layout-layout.ensures c.fresh_kinds-layout.ensures ∣₁ }

pub returns : goal.returns
returns c = fresh_draws c.empty_layout-layout.result c.fresh_kinds-layout.result c.empty_layout-layout.ensures
