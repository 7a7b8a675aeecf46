use Rattle.std.proofs.Common.{◌≡◌, [], ◌∷◌, ◌++◌, subst}
use Rattle.line.specs.Spots.{wrote}
use Rattle.newell.specs.declared.records.Vehicle.{Vehicle}
use Rattle.links.specs.Yards.{holds, spots_of, Put}
use Rattle.flow.proofs.Pulling.{pulled_one}
use Rattle.flow.proofs.pull.pull_one.Goals as goal

pub returns-in-Some : goal.returns-in-Some
returns-in-Some c = pulled_one c.args.t.clock c.args.j c.requires.link c.args.yard.now c.take.new.self c.push.new.self c.in-Some.v c.in-Some.ensures.told c.in-Some.ensures.put c.in-Some.ensures.spots
    (subst (λ (u : Vehicle). Put c.take.new.self c.push.new.self c.args.j (holds c.take.new.self c.args.j ++ u ∷ [])) c.arriving.ensures c.push.ensures.put)
    (subst (λ (u : Vehicle). spots_of c.push.new.self c.args.j ≡ wrote (spots_of c.take.new.self c.args.j) u) c.arriving.ensures c.push.ensures.spots)
