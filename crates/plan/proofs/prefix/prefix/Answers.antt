use Rattle.std.proofs.Common.{◌≡◌, ◌+◌, ◌<◌, length, take, ◌∙◌, inl, inr, ⊎_elim, arith}
use Rattle.newell.specs.Plain.{towards}
use Rattle.newell.proofs.Diverge.{stops}
use Rattle.network.specs.Nets.{net_of}
use Rattle.links.specs.Yards.{holds}
use Rattle.plan.specs.View.{view_of}
use Rattle.plan.proofs.Prefixing.{count_more, stop_here}
use Rattle.plan.proofs.prefix.prefix.Goals as goal
use Rattle.plan.proofs.prefix.prefix.Goals.{After-goes-b}

-- one vehicle more is counted
counted : (c : After-goes-b) → let vs = holds c.args.yard.now c.args.i in
    (length (towards (net_of c.args.net.now) c.args.i c.args.j (take (c.loop-k.k + 1) vs)) ≡ length (towards (net_of c.args.net.now) c.args.i c.args.j (take c.loop-k.k vs)) + c.goes-a.result)
    × (length (towards (net_of c.args.net.now) c.args.i c.args.j2 (take (c.loop-k.k + 1) vs)) ≡ length (towards (net_of c.args.net.now) c.args.i c.args.j2 (take c.loop-k.k vs)) + c.goes-b.result)
counted c =
    let net = net_of c.args.net.now in
    let k = c.loop-k.k in
    let vs = holds c.args.yard.now c.args.i in
    let l : k < length vs = omega (arith, c.requires.plannable.enough c.args.i c.requires.link, c.may_send-sends.ensures) in
    let v = rw c.from.ensures at c.look-v.ensures in (
      count_more net c.args.i c.args.j k c.goes-a.result vs c.look-v.result c.next-to.result l v c.next-to.ensures c.goes-a.ensures,
      count_more net c.args.i c.args.j2 k c.goes-b.result vs c.look-v.result c.next-to.result l v c.next-to.ensures c.goes-b.ensures,
    )

pub loop-k-preserved : goal.loop-k-preserved
loop-k-preserved c =
    let v = c.loop-k.invariant in
    let e = counted (goal.at.loop-k-preserved c).After-goes-b in
    let u = c.room_for.ensures.yes c.if-not-room_for.false in
    record { one = omega (arith, e.0, v.one); two = omega (arith, e.1, v.two); room = omega (arith, u.0, v.room); room2 = omega (arith, u.1, v.room2) }

pub returns-then-not-room_for : goal.returns-then-not-room_for
returns-then-not-room_for c = λ t.
    let v = c.loop-k.invariant in
    let e = counted (goal.at.returns-then-not-room_for c).After-goes-b in
    stop_here (net_of c.args.net.now) (view_of c.args.yard.now t) c.args.i c.args.j c.args.j2 c.loop-k.k c.goes-a.result c.goes-b.result c.may_take-room.result c.may_take-room2.result
    (omega (arith, c.may_send-sends.ensures)) c.may_take-room.ensures c.may_take-room2.ensures (omega (arith, v.one, v.room)) (omega (arith, v.two, v.room2)) e.0 e.1
    (⊎_elim (λ w. inl (omega (arith, w, v.one))) (λ w. inr (omega (arith, w, v.two))) (c.room_for.ensures.no c.if-not-room_for.true))

pub returns-after-loop-k : goal.returns-after-loop-k
returns-after-loop-k c = λ t.
    let v = c.loop-k.invariant in
    let e : c.loop-k.k ≡ c.may_send-sends.result = omega arith in
    rw (← e) (stops (net_of c.args.net.now) (view_of c.args.yard.now t) c.args.i c.args.j c.args.j2 c.loop-k.k
    (record { sent = omega (arith, e, c.may_send-sends.ensures); one = omega (arith, v.one, v.room, c.may_take-room.ensures); other = omega (arith, v.two, v.room2, c.may_take-room2.ensures) })
    (inl (e ∙ c.may_send-sends.ensures)))

pub overflow_add-one : goal.overflow_add-one
overflow_add-one c = omega (arith, (c.room_for.ensures.yes c.if-not-room_for.false).0, c.loop-k.invariant.room)

pub overflow_add-two : goal.overflow_add-two
overflow_add-two c = omega (arith, (c.room_for.ensures.yes c.if-not-room_for.false).1, c.loop-k.invariant.room2)

pub may_send-sends-requires-clause-safe : goal.may_send-sends-requires-clause-safe
may_send-sends-requires-clause-safe c = c.requires.plannable.safe c.args.i c.requires.link

pub may_take-room-requires-clause-safe : goal.may_take-room-requires-clause-safe
may_take-room-requires-clause-safe c = c.requires.plannable.safe c.args.j c.requires.one

pub may_take-room2-requires-clause-safe : goal.may_take-room2-requires-clause-safe
may_take-room2-requires-clause-safe c = c.requires.plannable.safe c.args.j2 c.requires.two

pub look-v-requires-clause-some : goal.look-v-requires-clause-some
look-v-requires-clause-some c = omega (arith, c.from.ensures, c.requires.plannable.enough c.args.i c.requires.link, c.may_send-sends.ensures)
