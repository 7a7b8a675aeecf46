use Rattle.std.proofs.Common.{◌≡◌, ◌+◌, ◌<◌, length, refl, ◌∙◌, ap₂, arith}
use Rattle.std.proofs.lemmas.List.{length-set}
use Rattle.network.specs.Nets.{net_of}
use Rattle.line.specs.Parts.{fresh}
use Rattle.links.specs.Tables.{fresh_record}
use Rattle.run.specs.Opens.{fresh_at}
use Rattle.run.proofs.Laying.{offset_none, offset_road, offset_queue, offset_small, fresh_more}
use Rattle.run.proofs.open.lay.Goals as goal

pub loop-i-init : goal.loop-i-init
loop-i-init c = record { road = offset_none (net_of c.args.net.now); queue = c.road_places-queue.ensures.told; wide = refl; each = λ k h. absurd (omega arith) }

pub overflow_add-road : goal.overflow_add-road
overflow_add-road c = omega (arith, c.loop-i.invariant.road, offset_small c.args.net.now c.loop-i.i, c.road_size-size.ensures.small)

pub overflow_add-queue : goal.overflow_add-queue
overflow_add-queue c = omega (arith, c.loop-i.invariant.queue, offset_small c.args.net.now (48 + c.loop-i.i), c.queue_size-waits.ensures.small)

pub loop-i-preserved : goal.loop-i-preserved
loop-i-preserved c =
    let net = net_of c.args.net.now in
    let v = c.loop-i.invariant in
    let i = c.loop-i.i in
    let a = c.road_size-size.ensures in
    let b = c.queue_size-waits.ensures in
    let l : i < length c.loop-i.link-items = omega (arith, v.wide) in
    let x : c.new-in-loop-i-3.result ≡ fresh_at net i =
    c.new-in-loop-i-3.ensures ∙ ap₂ fresh_record (c.new-in-loop-i.ensures ∙ ap₂ fresh v.road a.told) (c.new-in-loop-i-2.ensures ∙ ap₂ fresh v.queue b.told) in
    record {
      road = offset_road net c.loop-i.road i c.road_size-size.result (omega arith) v.road a.told;
      queue = offset_queue net c.loop-i.queue i c.queue_size-waits.result (omega arith) v.queue b.told;
      wide = length-set c.loop-i.link-items i c.new-in-loop-i-3.result ∙ v.wide;
      each = fresh_more net c.loop-i.link-items i c.new-in-loop-i-3.result l x v.each;
    }
