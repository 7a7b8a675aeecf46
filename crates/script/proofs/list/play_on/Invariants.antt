use Rattle.std.proofs.Common.{◌≡◌, ℕ, ◌≤◌, get_or, Option, Result}
use Rattle.network.specs.Nets.{net_of}
use Rattle.newell.specs.History.{History}
use Rattle.run.specs.Stores.{view_in}
use Rattle.run.specs.declared.store.Refusal.{Refusal}
use Rattle.script.specs.declared.call.Outcome.{Outcome}
use Rattle.script.specs.Scripts.{Played}
use Rattle.script.proofs.list.play_on.Given as goal

abbrev pub invariant-loop-i : goal.invariant-loop-i
invariant-loop-i g l =
    ((h : History) × Played (net_of l.initial.run.store.net) (g.R.MergeRule.meaning l.initial.rule) l.initial.rows (view_in l.initial.run.store) l.calls l.answers l.i h (g.R.MergeRule.meaning l.rule) l.rows (view_in l.run.store))
    × (l.run.store.net ≡ l.initial.run.store.net)
    × (l.run.store.yard.area.ghost_name ≡ l.initial.run.store.yard.area.ghost_name)
    × ((k : ℕ) (d : Option (Result Outcome Refusal)) → l.i ≤ k → get_or l.answers k d ≡ get_or l.initial.answers k d)
