use Rattle.std.proofs.Common.{refl, ◌∙◌, rules, arith}
use Rattle.std.proofs.lemmas.Iterator.{YieldsList-from_map, YieldsList-from_range}
use Rattle.std.proofs.lemmas.Iterator.Consumers.{sum_by_from_yields_List, fits_by_from_yields_list}
use Rattle.std.specs.List.{range_with_len}
use Rattle.network.specs.Nets.{net_of}
use Rattle.run.specs.Opens.{road_size}
use Rattle.run.proofs.Laying.{roads_sum, offset_small}
use Rattle.run.proofs.open.road_places.Goals as goal

pub sum-requires-clause-fits : goal.sum-requires-clause-fits
sum-requires-clause-fits c =
    let net = net_of c.args.net.now in
    fits_by_from_yields_list (road_size net) (range_with_len 0 48) c.map.result _
    (YieldsList-from_map _ (road_size net) (YieldsList-from_range 0 48 48 c.map.ensures.source refl) c.map.ensures.closure (λ x r q k. search rules))
    (omega (arith, roads_sum net, offset_small c.args.net.now 48))

pub returns : goal.returns
returns c =
    let net = net_of c.args.net.now in
    let e = sum_by_from_yields_List (road_size net) (range_with_len 0 48) c.map.result c.sum.result c.sum.ensures.ran
    (YieldsList-from_map _ (road_size net) (YieldsList-from_range 0 48 48 c.map.ensures.source refl) c.map.ensures.closure (λ x r q k. search rules)) in
    record { told = e ∙ roads_sum net; small = omega (arith, e, roads_sum net, offset_small c.args.net.now 48) }
