use Rattle.std.proofs.Common.{◌<◌, ◌≢◌, [], length, Some, refl, ap, ◌∙◌, arith}
use Rattle.std.proofs.lemmas.List.{get_or_default, get_or-set_other}
use Rattle.network.specs.declared.network.Network.{Network}
use Rattle.network.specs.Nets.{net_of}
use Rattle.run.specs.Stores.{view_in}
use Rattle.script.specs.declared.call.Call.TheVariants.{Step}
use Rattle.script.specs.Scripts.{none}
use Rattle.script.proofs.Playing.{played_more}
use Rattle.script.proofs.list.play_on.Goals as goal

pub loop-i-init : goal.loop-i-init
loop-i-init g c = (([], none), refl, refl, λ k d l. refl)

pub loop-i-preserved : goal.loop-i-preserved
loop-i-preserved g c =
    let v = c.loop-i.invariant in
    let i = c.loop-i.i in
    let e = c.make_call.ensures in
    let s = c.args.run.now.store in
    let l : i < length c.loop-i.answers = omega (arith, c.requires, c.loop-i.auto.answers) in (
      played_more (net_of s.net) (g.R.MergeRule.meaning c.args.rule.now) c.args.rows.now (view_in s) c.args.calls.now c.loop-i.answers
          (net_of c.loop-i.run.store.net) (ap (λ (n : Network). net_of n) v.1) i
          (g.R.MergeRule.meaning c.loop-i.rule) (g.R.MergeRule.meaning c.make_call.new.rule) c.loop-i.rows c.make_call.new.rows
          (view_in c.loop-i.run.store) (view_in c.make_call.new.run.store) _ c.make_call.result l
          (get_or_default c.args.calls.now i _ Step (omega arith)) v.0 e.called,
      e.net ∙ v.1,
      e.same ∙ v.2,
      λ k d h. get_or-set_other c.loop-i.answers i k (Some c.make_call.result) d (let ne : k ≢ i = omega arith in ne) ∙ v.3 k d (omega arith),
    )
