use Rattle.std.proofs.Common.{◌<◌, ap, arith}
use Rattle.links.specs.Readings.{back}
use Rattle.links.specs.Yards.{gauge_of}
use Rattle.network.specs.Nets.{net_of}
use Rattle.network.proofs.Rights.{right_of}
use Rattle.newell.proofs.Safety.{reached_le}
use Rattle.run.specs.Stores.{view_in}
use Rattle.run.proofs.store.Store.tell.Goals as goal
use Rattle.run.proofs.store.Store.tell.Goals.{Start}

place : (c : Start) → c.args.i < 48
place c = omega (arith, c.requires.here, (right_of c.args.self.now.net).count)

pub on-on-requires-clause-here : goal.on-on-requires-clause-here
on-on-requires-clause-here c = place (goal.at.on-on-requires-clause-here c).Start

pub off-off-requires-clause-here : goal.off-off-requires-clause-here
off-off-requires-clause-here c = place (goal.at.off-off-requires-clause-here c).Start

pub on-arrived-requires-clause-here : goal.on-arrived-requires-clause-here
on-arrived-requires-clause-here c = place (goal.at.on-arrived-requires-clause-here c).Start

pub on-arrived-requires-clause-near : goal.on-arrived-requires-clause-near
on-arrived-requires-clause-near c = omega (arith, ((right_of c.args.self.now.net).link c.args.i c.requires.here).free_most, c.free.ensures, c.from-free.ensures)

pub overflow_sub-result : goal.overflow_sub-result
overflow_sub-result c =
    let s = c.args.self.now in
    let a = reached_le (net_of s.net) (view_in s) _ _ c.requires.reached (λ w f. (f.link c.args.i c.requires.here).queueing) in
    omega (arith, a, c.off-off.ensures, c.on-arrived.ensures, ap (λ k. back (gauge_of s.yard c.args.i).ons k) c.from-free.ensures, ap (λ k. back (gauge_of s.yard c.args.i).ons k) c.free.ensures)

pub travel-requires : goal.travel-requires
travel-requires c = place (goal.at.travel-requires c).Start
