use Rattle.std.proofs.Common.{◌≡◌, refl, rules, arith}
use Rattle.std.proofs.lemmas.Iterator.{YieldsList-from_map, YieldsList-from_range}
use Rattle.std.proofs.lemmas.Iterator.Consumers.{sum_by_from_yields_List, fits_by_from_yields_list}
use Rattle.std.specs.List.{sum_by, range_with_len}
use Rattle.network.specs.Nets.{net_of}
use Rattle.run.specs.Opens.{queue_size}
use Rattle.run.proofs.Laying.{queues_sum, offset_small}
use Rattle.run.proofs.open.needed.Goals as goal
use Rattle.run.proofs.open.needed.Goals.{After-sum-waiting}

pub sum-waiting-requires-clause-fits : goal.sum-waiting-requires-clause-fits
sum-waiting-requires-clause-fits c =
    let net = net_of c.args.net.now in
    fits_by_from_yields_list (queue_size net) (range_with_len 0 48) c.map.result _
    (YieldsList-from_map _ (queue_size net) (YieldsList-from_range 0 48 48 c.map.ensures.source refl) c.map.ensures.closure (λ x r q k. search rules))
    (omega (arith, queues_sum net, offset_small c.args.net.now 96))

waiting : (c : After-sum-waiting) → c.sum-waiting.result ≡ sum_by (queue_size (net_of c.args.net.now)) (range_with_len 0 48)
waiting c =
    let net = net_of c.args.net.now in
    sum_by_from_yields_List (queue_size net) (range_with_len 0 48) c.map.result c.sum-waiting.result c.sum-waiting.ensures.ran
    (YieldsList-from_map _ (queue_size net) (YieldsList-from_range 0 48 48 c.map.ensures.source refl) c.map.ensures.closure (λ x r q k. search rules))

pub overflow_add-result : goal.overflow_add-result
overflow_add-result c =
    omega (arith, waiting (goal.at.overflow_add-result c).After-sum-waiting, queues_sum (net_of c.args.net.now), offset_small c.args.net.now 96, c.road_places.ensures.told)

pub returns : goal.returns
returns c = omega (arith, waiting (goal.at.returns c).After-sum-waiting, queues_sum (net_of c.args.net.now), c.road_places.ensures.told)
