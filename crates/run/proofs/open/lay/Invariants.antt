use Rattle.std.proofs.Common.{◌≡◌, ℕ, ◌+◌, ◌<◌, length, get_or}
use Rattle.network.specs.Nets.{net_of}
use Rattle.links.specs.Tables.{blank_record}
use Rattle.run.specs.Opens.{offset, fresh_at}
use Rattle.run.proofs.open.lay.Given as goal

abbrev pub invariant-loop-i : goal.invariant-loop-i
invariant-loop-i l = record {
  road : l.road ≡ offset (net_of l.net) l.i;
  queue : l.queue ≡ offset (net_of l.net) (48 + l.i);
  wide : length l.link-items ≡ 48;
  each : (k : ℕ) → k < l.i → get_or l.link-items k blank_record ≡ fresh_at (net_of l.net) k;
}
