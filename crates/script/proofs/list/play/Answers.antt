use Rattle.std.proofs.Common.{ap}
use Rattle.network.specs.declared.network.Network.{Network}
use Rattle.network.specs.Nets.{net_of}
use Rattle.run.specs.Stores.{view_in}
use Rattle.script.proofs.Playing.{promised_at}
use Rattle.script.proofs.list.play.Goals as goal

pub returns-clause-told : goal.returns-clause-told
returns-clause-told g c =
    let o = c.make-run.ensures in
    let p = c.play_on.ensures in
    promised_at (net_of c.args.net) (g.R.MergeRule.meaning c.args.rule.now) c.args.rows.now (view_in c.make-run.result.store) c.args.calls.now c.play_on.new.answers
    (net_of c.make-run.result.store.net) (ap (λ (n : Network). net_of n) o.net) (g.R.MergeRule.meaning c.play_on.new.rule) c.play_on.new.rows (view_in c.play_on.new.run.store)
    o.new.sound o.opened p.played
