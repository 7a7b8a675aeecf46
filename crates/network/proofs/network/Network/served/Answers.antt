use Rattle.std.proofs.Common.{suc, true, false, sym, refl, ◌∙◌, arith}
use Rattle.network.specs.Net.{there, along}
use Rattle.std.proofs.lemmas.Bool.{both_ways}
use Rattle.network.specs.Nets.{net_of}
use Rattle.network.proofs.Nexts.{next_in}
use Rattle.network.proofs.Rights.{right_of}
use Rattle.network.proofs.Walking.{walk_none, walk_back}
use Rattle.network.proofs.network.Network.served.Goals as goal

pub returns-in-None : goal.returns-in-None
returns-in-None c = record {
  yes = λ e. absurd (both_ways false refl e);
  no = λ e n w. let r = c.loop-first.invariant.2 n w in walk_none (net_of c.args.self.now) c.args.x r.1 (λ e. c.loop-first-test.true (c.end.ensures ∙ e)) c.in-None.ensures;
}

pub loop-first-smaller : goal.loop-first-smaller
loop-first-smaller c =
    let n = c.args.self.now in
    let w = right_of n in
    let i = c.loop-first.i in
    let a = next_in n.layout w i c.loop-first.invariant.0 c.args.x c.in-Some.j (sym c.in-Some.ensures) in
    omega (arith, a.1, (w.link c.in-Some.j a.0).upward, (w.link c.in-Some.j a.0).to_node, (w.link i c.loop-first.invariant.0).to_node, w.nodes)

pub loop-first-preserved : goal.loop-first-preserved
loop-first-preserved c =
    let n = c.args.self.now in
    let i = c.loop-first.i in
    let e = c.in-Some.ensures in
    let a = next_in n.layout (right_of n) i c.loop-first.invariant.0 c.args.x c.in-Some.j (sym e) in (
      a.0,
      (λ k w. c.loop-first.invariant.1 (suc k) (along (sym e) w)),
      (λ k w. let r = c.loop-first.invariant.2 k w in walk_back (net_of n) c.args.x c.in-Some.j r.1 (λ q. c.loop-first-test.true (c.end.ensures ∙ q)) e),
    )

pub returns : goal.returns
returns c = record {
  yes = λ e. c.loop-first.invariant.1 1 (there (sym c.end.ensures ∙ c.loop-first-test.false) c.requires.exit.1.1);
  no = λ e. absurd (both_ways true e refl);
}
