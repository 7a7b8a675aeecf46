use Rattle.std.proofs.Common.{nat_eq}
use Rattle.network.specs.Net.{places}
use Rattle.network.specs.Scans.{IsFew, end_of, link_in}
use Rattle.network.proofs.scan.scan.Given as goal

abbrev pub invariant-loop-i : goal.invariant-loop-i
invariant-loop-i l = IsFew l.few (places (λ i. nat_eq (end_of l.leaves (link_in l.links i)) l.n) l.i)
