-- What every network keeps, as the code asks for it.
use Rattle.std.proofs.Common.{◌≤◌}
use Rattle.network.specs.declared.network.Network.{Network}
use Rattle.network.proofs.Rights.{right_of}

-- there are no more links than places
pub few_links : (n : Network) → n.layout.count ≤ 48
few_links n = (right_of n).count
