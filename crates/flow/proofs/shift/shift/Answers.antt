use Rattle.std.proofs.Common.{get_or, ◌∙◌, subst}
use Rattle.network.specs.Nets.{net_of}
use Rattle.network.proofs.Nexts.{next_in}
use Rattle.network.proofs.Rights.{right_of}
use Rattle.links.proofs.Changing.{fits}
use Rattle.flow.specs.Flows.{PulledAll}
use Rattle.flow.proofs.Shifting.{sendable, shifted, times_kept}
use Rattle.flow.proofs.shift.shift.Goals as goal
use Rattle.flow.proofs.shift.shift.Goals.{After-pull_all}

pulled : (c : After-pull_all) → PulledAll c.args.t.clock (λ i. get_or c.args.takes.now i 0) (net_of c.args.net.now).links c.args.yard.now c.pull_all.new.yard
pulled c = subst (λ m. PulledAll c.args.t.clock (λ i. get_or c.args.takes.now i 0) m c.args.yard.now c.pull_all.new.yard) c.links.ensures c.pull_all.ensures

pub send_all-requires-clause-sendable : goal.send_all-requires-clause-sendable
send_all-requires-clause-sendable c =
    let n = c.args.net.now in
    let p = pulled (goal.at.send_all-requires-clause-sendable c).After-pull_all in
    sendable (net_of n) c.args.t.clock (λ i. get_or c.args.takes.now i 0) (λ i. get_or c.args.outs.now i 0) c.args.yard.now c.pull_all.new.yard (right_of n).count c.requires.shiftable p
    (λ i x j l e. (next_in n.layout (right_of n) i l x j e).0) (λ l h. fits c.pull_all.new.yard l h)

pub returns-clause-shifted : goal.returns-clause-shifted
returns-clause-shifted c =
    let n = c.args.net.now in
    let p = pulled (goal.at.returns-clause-shifted c).After-pull_all in
    shifted (net_of n) c.args.t.clock (λ i. get_or c.args.takes.now i 0) (λ i. get_or c.args.outs.now i 0) c.args.yard.now c.pull_all.new.yard (right_of n).count c.requires.shiftable p
    (λ i x j l e. (next_in n.layout (right_of n) i l x j e).0) (λ l h. fits c.pull_all.new.yard l h) c.send_all.new.yard c.send_all.ensures.sent

pub returns-clause-time : goal.returns-clause-time
returns-clause-time c =
    let n = c.args.net.now in
    let p = pulled (goal.at.returns-clause-time c).After-pull_all in
    λ i l. c.send_all.ensures.time i l ∙ times_kept (net_of n) c.args.t.clock (λ i. get_or c.args.takes.now i 0) (λ i. get_or c.args.outs.now i 0) c.args.yard.now c.pull_all.new.yard (right_of n).count c.requires.shiftable p
    (λ i x j l e. (next_in n.layout (right_of n) i l x j e).0) (λ l h. fits c.pull_all.new.yard l h) i l
