use Rattle.std.proofs.Common.{◌+◌, arith}
use Rattle.network.specs.Nets.{net_of}
use Rattle.network.proofs.Rights.{right_of}
use Rattle.run.proofs.Booking.{queued, built_still}
use Rattle.run.proofs.store.Store.queue_up.Goals as goal

pub queue_up-requires-clause-link : goal.queue_up-requires-clause-link
queue_up-requires-clause-link c = omega (arith, c.requires.link, (right_of c.args.self.now.net).count)

pub returns-clause-queued : goal.returns-clause-queued
returns-clause-queued c =
    let s = c.args.self.now in
    let few = (right_of s.net).count in
    queued (net_of s.net) s.yard c.queue_up.new.yard s.clock c.args.j c.args.x c.args.n few (omega (arith, c.requires.link, few)) c.queue_up.ensures.put

pub returns-clause-built : goal.returns-clause-built
returns-clause-built c = let s = c.args.self.now in built_still (net_of s.net) s.yard c.queue_up.new.yard (48 + c.args.j) _ c.requires.built c.queue_up.ensures.put
