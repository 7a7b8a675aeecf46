use Rattle.std.proofs.Common.{[], refl}
use Rattle.network.specs.Nets.{net_of}
use Rattle.network.proofs.Rights.{right_of, sound_of}
use Rattle.newell.proofs.Carried.{opening_starts}
use Rattle.run.proofs.Laying.{lies, built, ring, opened}
use Rattle.run.proofs.run.Run.make.Goals as goal

pub invariant_of-yard : goal.invariant_of-yard
invariant_of-yard c = record { laid = ∣ lies (net_of c.args.net) _ c.lay-table.ensures _ c.requires ∣₁ }

pub invariant_of-result : goal.invariant_of-result
invariant_of-result c =
    let n = c.args.net in
    let o = opened (net_of n) _ (right_of n).count c.lay-table.ensures in record { built = built (net_of n) _ (right_of n).count c.lay-table.ensures; ring = ring (net_of n) _ (right_of n).count c.lay-table.ensures; reached = ∣ ([], opening_starts (net_of n) (sound_of n.layout (right_of n)) _ o) ∣₁ }

pub returns : goal.returns
returns c =
    let n = c.args.net in
    let o = opened (net_of n) _ (right_of n).count c.lay-table.ensures in
    record { opened = o; new = opening_starts (net_of n) (sound_of n.layout (right_of n)) _ o; net = refl; area = refl }
