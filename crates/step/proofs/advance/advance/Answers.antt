use Rattle.std.proofs.Common.{get_or, None, ◌∙◌, arith}
use Rattle.network.specs.Nets.{net_of}
use Rattle.links.proofs.Keeping.{ring_still, ring_noted}
use Rattle.step.proofs.Stepping.{blank_row, readable, plannable, shiftable, after_more, after_small, advanced, built_on}
use Rattle.step.proofs.advance.advance.Goals as goal

pub take_caps-requires-clause-safe : goal.take_caps-requires-clause-safe
take_caps-requires-clause-safe g c = readable c.args.net.now c.args.yard.now c.args.tick.clock c.requires.built c.requires.reached

pub plan-requires-clause-plannable : goal.plan-requires-clause-plannable
plan-requires-clause-plannable g c = plannable c.args.net.now c.args.yard.now c.args.tick.clock c.requires.built c.requires.reached

pub shift-requires-clause-shiftable : goal.shift-requires-clause-shiftable
shift-requires-clause-shiftable g c = shiftable c.args.net.now c.args.yard.now c.args.tick.clock c.requires.built c.requires.reached c.args.tick.early
    (g.R.MergeRule.meaning c.args.rule.now) (g.met.R.MergeRule.lawful c.args.rule.now) (λ i. get_or c.take_caps.new.takes i 0) (λ i. get_or c.plan.new.outs i 0) c.plan.ensures.passes c.take_caps.ensures

pub note_all-requires-clause-small : goal.note_all-requires-clause-small
note_all-requires-clause-small g c = λ i l. after_small c.args.net.now c.args.yard.now c.args.tick.clock c.requires.built c.requires.reached c.args.tick.early
    (g.R.MergeRule.meaning c.args.rule.now) (g.met.R.MergeRule.lawful c.args.rule.now) (λ i. get_or c.take_caps.new.takes i 0) (λ i. get_or c.plan.new.outs i 0) c.plan.ensures.passes c.take_caps.ensures
    c.shift.new.yard c.shift.ensures.shifted i (omega (arith, l, c.links.ensures))

pub note_all-requires-clause-more : goal.note_all-requires-clause-more
note_all-requires-clause-more g c = λ i l. after_more c.args.net.now c.args.yard.now c.args.tick.clock c.requires.built c.requires.reached c.args.tick.early
    (g.R.MergeRule.meaning c.args.rule.now) (g.met.R.MergeRule.lawful c.args.rule.now) (λ i. get_or c.take_caps.new.takes i 0) (λ i. get_or c.plan.new.outs i 0) c.plan.ensures.passes c.take_caps.ensures
    c.shift.new.yard c.shift.ensures.shifted i (omega (arith, l, c.links.ensures))

pub returns-clause-advanced : goal.returns-clause-advanced
returns-clause-advanced g c = advanced c.args.net.now c.args.yard.now c.args.tick.clock c.requires.built c.requires.reached c.args.tick.early
    (g.R.MergeRule.meaning c.args.rule.now) (g.met.R.MergeRule.lawful c.args.rule.now) (λ i. get_or c.take_caps.new.takes i 0) (λ i. get_or c.plan.new.outs i 0) c.plan.ensures.passes c.take_caps.ensures
    c.shift.new.yard c.shift.ensures.shifted c.note_all.new.yard c.note_all.ensures.still (g.R.MergeRule.meaning c.plan.new.rule) c.args.rows.now c.note_all.new.rows (λ i. get_or c.shift.new.times i None)
    c.shift.ensures.time (λ i d l. c.note_all.ensures.written i d (omega (arith, l, c.links.ensures))) (λ i d l. c.note_all.ensures.beyond i d (omega (arith, l, c.links.ensures))) c.note_all.auto.rows c.plan.ensures.asked

pub returns-clause-built : goal.returns-clause-built
returns-clause-built g c = built_on (net_of c.args.net.now) c.args.yard.now c.note_all.new.yard c.requires.built (λ l. c.note_all.ensures.still.sizes l ∙ c.shift.ensures.shifted.sizes l)

pub returns-clause-ring : goal.returns-clause-ring
returns-clause-ring g c = λ h.
    ring_noted c.shift.new.yard c.note_all.new.yard c.links.result
    (λ i l. let w = c.note_all.ensures.written i blank_row l in (w.on.inside, w.off.inside)) c.note_all.ensures.others
    (ring_still c.args.yard.now c.shift.new.yard c.shift.ensures.shifted.gauges h)

pub returns-clause-idle : goal.returns-clause-idle
returns-clause-idle g c = λ i l. c.note_all.ensures.others i (omega (arith, l, c.links.ensures)) ∙ c.shift.ensures.shifted.gauges i
