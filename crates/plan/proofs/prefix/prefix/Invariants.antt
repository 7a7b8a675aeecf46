use Rattle.std.proofs.Common.{◌≡◌, ◌≤◌, length, take}
use Rattle.newell.specs.Plain.{towards}
use Rattle.network.specs.Nets.{net_of}
use Rattle.links.specs.Yards.{holds}
use Rattle.plan.proofs.prefix.prefix.Given as goal

abbrev pub invariant-loop-k : goal.invariant-loop-k
invariant-loop-k l = record {
  one : l.one ≡ length (towards (net_of l.net) l.i l.j (take l.k (holds l.yard l.i)));
  two : l.two ≡ length (towards (net_of l.net) l.i l.j2 (take l.k (holds l.yard l.i)));
  room : l.one ≤ l.room;
  room2 : l.two ≤ l.room2;
}
