use Rattle.std.proofs.Common.{ℕ, ◌<◌, ◌≤◌, ◌≢◌, length, get_or, None, ◌∙◌, arith, below_more, length-take}
use Rattle.std.proofs.lemmas.List.{get_or-set_same, get_or-set_other}
use Rattle.network.specs.Nets.{net_of}
use Rattle.network.proofs.Nexts.{next_self}
use Rattle.network.proofs.Rights.{right_of}
use Rattle.flow.proofs.Sending.{all_none, enough, past, room, time_same, all_more}
use Rattle.flow.proofs.all.send_all.Goals as goal
use Rattle.flow.proofs.all.send_all.Goals.{After-from}

pub loop-i-init : goal.loop-i-init
loop-i-init c = (all_none (net_of c.args.net.now) c.args.t.clock (λ i. get_or c.args.outs.now i 0) c.args.yard.now, λ i h. absurd (omega arith))

low : (c : After-from) → c.loop-i.i < c.args.net.now.layout.count
low c = omega (arith, length-take c.links.result c.args.times.now)

few : (c : After-from) → c.args.net.now.layout.count ≤ 96
few c = omega (arith, (right_of c.args.net.now).count)

pub send-requires : goal.send-requires
send-requires c =
    let net = net_of c.args.net.now in
    let k : ℕ → ℕ = λ i. get_or c.args.outs.now i 0 in
    let y = c.args.yard.now in
    let y₁ = c.loop-i.yard in
    let i = c.loop-i.i in
    let q = (goal.at.send-requires c).After-from in
    let bar = next_self c.args.net.now.layout (right_of c.args.net.now) i (low q) in
    let s = c.loop-i.invariant.0 in
    let ask = c.requires.sendable in
    record {
      link = low q;
      enough = rw c.from.ensures (enough net c.args.t.clock k y y₁ i (few q) (low q) ask s bar);
      past = rw c.from.ensures (past net c.args.t.clock k y y₁ i (few q) (low q) ask s bar);
      room = rw c.from.ensures (λ j l ne. room net c.args.t.clock k y y₁ i (few q) (low q) ask s bar j l);
    }

pub loop-i-preserved : goal.loop-i-preserved
loop-i-preserved c =
    let net = net_of c.args.net.now in
    let k : ℕ → ℕ = λ i. get_or c.args.outs.now i 0 in
    let i = c.loop-i.i in
    let q = (goal.at.loop-i-preserved c).After-from in
    let bar = next_self c.args.net.now.layout (right_of c.args.net.now) i (low q) in
    let s = c.loop-i.invariant.0 in
    let sent = rw c.from.ensures at c.send.ensures.sent in
    let time = rw c.from.ensures at c.send.ensures.time in
    let w : i < length c.loop-i.time-items = omega arith in (
      all_more net c.args.t.clock k c.args.yard.now c.loop-i.yard i (few q) (low q) c.requires.sendable s bar c.send.new.yard sent,
      below_more _ _
          (λ q h. let ne : q ≢ i = omega arith in get_or-set_other c.loop-i.time-items i q c.send.result None ne ∙ c.loop-i.invariant.1 q h)
          (get_or-set_same c.loop-i.time-items i c.send.result None w ∙ time ∙ time_same net c.args.t.clock k c.args.yard.now c.loop-i.yard i (few q) (low q) c.requires.sendable s bar),
    )
