use Rattle.std.proofs.Common.{◌<◌, ◌∙◌, arith}
use Rattle.network.specs.Nets.{net_of}
use Rattle.network.proofs.Nexts.{next_in, next_other}
use Rattle.links.specs.Yards.{holds}
use Rattle.network.proofs.Rights.{right_of}
use Rattle.flow.proofs.Passing.{sent_none, left_room, sent_again, last_is}
use Rattle.flow.proofs.pass.send.Goals as goal

pub loop-init : goal.loop-init
loop-init c = sent_none (net_of c.args.net.now) c.args.t.clock c.args.i c.args.yard.now

pub pass_one-requires-clause-room : goal.pass_one-requires-clause-room
pass_one-requires-clause-room c = λ j f.
    let i = c.args.i in
    let w = right_of c.args.net.now in
    let a = next_in c.args.net.now.layout w i c.requires.link _ j f in
    let b = next_other c.args.net.now.layout w i c.requires.link _ j f in
    let low : c.loop.counter < c.args.n = omega arith in
    let h : j < 48 = omega (arith, a.0, w.count) in
    let l : j < 96 = omega arith in
    (h, b, left_room (net_of c.args.net.now) c.args.t.clock i c.args.yard.now c.loop.yard c.loop.counter c.args.n low c.requires.enough c.loop.invariant j l b f (c.requires.room j l b))

pub loop-preserved : goal.loop-preserved
loop-preserved c =
    let low : c.loop.counter < c.args.n = omega arith in
    sent_again (net_of c.args.net.now) c.args.t.clock c.args.i c.args.yard.now c.loop.yard c.loop.counter c.args.n low c.requires.enough c.loop.invariant c.pass_one.new.yard c.pass_one.ensures

pub returns-clause-time : goal.returns-clause-time
returns-clause-time c = c.last_time-last.ensures ∙ last_is (net_of c.args.net.now) c.args.t.clock c.args.i (holds c.args.yard.now c.args.i) c.args.n c.requires.enough
