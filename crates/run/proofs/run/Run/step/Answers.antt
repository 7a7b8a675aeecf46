use Rattle.std.proofs.Common.{sym, subst}
use Rattle.std.proofs.lemmas.Result.{err_from_is_err_and}
use Rattle.newell.specs.History.{step, told}
use Rattle.newell.specs.Now.{Reached, Carries}
use Rattle.newell.proofs.Carried.{reached_on}
use Rattle.network.specs.declared.network.Network.{Network}
use Rattle.network.specs.Nets.{net_of}
use Rattle.plan.specs.View.{view_of}
use Rattle.step.specs.Steps.{Stepped}
use Rattle.run.specs.Stores.{view_in}
use Rattle.run.proofs.Answering.{accepted, turned_away}
use Rattle.run.proofs.run.Run.step.Given.{Over}
use Rattle.run.proofs.run.Run.step.Goals as goal
use Rattle.run.proofs.run.Run.step.Goals.{After-advance}

pub returns-in_err-judge_step-clause-carries : goal.returns-in_err-judge_step-clause-carries
returns-in_err-judge_step-clause-carries g c =
    let s = c.args.self.now.store in
    let p = err_from_is_err_and c.from_residual.result c.from_residual.ensures.1 in
    rw (p.1, p.2) (turned_away (net_of s.net) (view_in s) (g.R.MergeRule.meaning c.args.rule.now) c.args.rows.now c.in_err-judge_step.field-0.0 c.in_err-judge_step.ensures)

-- the plain run is carried on
stepped : (g : Over) (c : After-advance g)
    → let s = c.args.self.now.store in
    let m = g.R.MergeRule.meaning c.args.rule.now in
    let m' = g.R.MergeRule.meaning c.advance.new.rule in
    Carries (net_of s.net) (view_in s) (step m c.args.rows.now (told tt) m' c.advance.new.rows) (view_in c.advance.new.self)
stepped g c =
    let s = c.args.self.now.store in
    let s' = c.advance.new.self in
    let m = g.R.MergeRule.meaning c.args.rule.now in
    let m' = g.R.MergeRule.meaning c.advance.new.rule in
    accepted (net_of s.net) (view_in s) m c.args.rows.now (g.met.R.MergeRule.lawful c.args.rule.now) (view_in s') m' c.advance.new.rows
    (subst (λ t. Stepped (net_of s.net) (view_in s) m c.args.rows.now (view_of s'.yard t) m' c.advance.new.rows) (sym c.advance.ensures.clock) c.advance.ensures.advanced.stepped)
    c.in_ok-judge_step.ensures.0 c.in_ok-judge_step.ensures.1

pub invariant_of-self : goal.invariant_of-self
invariant_of-self g c =
    let s = c.args.self.now.store in
    let s' = c.advance.new.self in
    record {
      built = c.advance.ensures.built;
      ring = c.advance.ensures.ring c.args.self.now.ring;
      reached = subst (λ (n : Network). Reached (net_of n) (view_in s')) (sym c.advance.ensures.net)
          (reached_on (net_of s.net) (view_in s) _ (view_in s') (stepped g (goal.at.invariant_of-self g c).After-advance) c.args.self.now.reached);
    }

pub returns-clause-carries : goal.returns-clause-carries
returns-clause-carries g c = stepped g (goal.at.returns-clause-carries g c).After-advance
