use Rattle.std.proofs.Common.{◌+◌, [], sym, subst, arith}
use Rattle.newell.specs.History.{book, told}
use Rattle.newell.specs.Now.{Reached, Carries}
use Rattle.newell.proofs.Carried.{reached_on}
use Rattle.network.specs.declared.network.Network.{Network}
use Rattle.network.specs.Nets.{net_of}
use Rattle.network.proofs.Rights.{right_of}
use Rattle.network.proofs.Sorts.{in₁, off₁}
use Rattle.links.specs.Yards.{holds}
use Rattle.links.proofs.Keeping.{ring_still}
use Rattle.flow.proofs.Pulling.{exits_length}
use Rattle.run.specs.Stores.{view_in}
use Rattle.run.proofs.Booking.{booked_on}
use Rattle.run.proofs.run.Run.book.Goals as goal
use Rattle.run.proofs.run.Run.book.Goals.{After-queue_up}

pub overflow_cast-x : goal.overflow_cast-x
overflow_cast-x c =
    let n = c.args.self.now.store.net in
    let b = c.in_ok-j.ensures in
    let w = in₁ (net_of n) c.args.x b.exit.0 [] b.exit.1.0 in
    omega (arith, w.1, ((right_of n).link b.exit.0 w.0).to_node, (right_of n).nodes)

pub queue_up-requires : goal.queue_up-requires
queue_up-requires c =
    let s = c.args.self.now.store in
    let b = c.in_ok-j.ensures in
    let u = c.args.self.now.built in
    record {
      built = u;
      link = (off₁ (net_of s.net) c.args.e _ [] b.entrance.1).0;
      room = omega (arith, c.from.ensures, b.room, exits_length (holds s.yard (48 + c.in_ok-j.j)), u.waits c.args.e c.in_ok-j.j b.entrance);
    }

-- the plain run is carried on
booked : (c : After-queue_up) → let s = c.args.self.now.store in Carries (net_of s.net) (view_in s) (book c.args.e c.args.x c.args.count (told tt)) (view_in c.queue_up.new.self)
booked c =
    let s = c.args.self.now.store in
    booked_on (net_of s.net) (view_in s) c.args.e c.args.x c.args.count c.in_ok-j.j (view_in c.queue_up.new.self) c.in_ok-j.ensures (rw c.from.ensures at c.queue_up.ensures.queued)

pub invariant_of-self : goal.invariant_of-self
invariant_of-self c =
    let s = c.args.self.now.store in
    let s' = c.queue_up.new.self in
    record {
      built = c.queue_up.ensures.built;
      ring = ring_still s.yard s'.yard c.queue_up.ensures.gauges c.args.self.now.ring;
      reached = subst (λ (n : Network). Reached (net_of n) (view_in s')) (sym c.queue_up.ensures.net)
          (reached_on (net_of s.net) (view_in s) _ (view_in s') (booked (goal.at.invariant_of-self c).After-queue_up) c.args.self.now.reached);
    }

pub returns-clause-carries : goal.returns-clause-carries
returns-clause-carries c = booked (goal.at.returns-clause-carries c).After-queue_up
