use Rattle.std.proofs.Common.{true, false, Option, Some, None, ◌≡◌, ℕ, refl, sym, subst, ◌∙◌}
use Rattle.std.proofs.lemmas.Bool.{both_ways}
use Rattle.std.specs.Option.{is_some}
use Rattle.network.specs.Nets.{net_of, Found}
use Rattle.network.specs.Net.{Exit}
use Rattle.network.proofs.network.Network.route_fits.Goals as goal
use Rattle.network.proofs.network.Network.route_fits.Goals.{then-is_diverge, else-is_diverge}

found : (P : ℕ → Type 0) (o : Option ℕ) → Found o P → is_some o ≡ true → (i : ℕ) × P i
found P None h e = absurd (both_ways false refl e)
found P (Some i) h e = (i, h)

pub returns-then-is_some : goal.returns-then-is_some
returns-then-is_some c = elim c.if-is_diverge.branch [
  | then-is_diverge w ↦
      (let x = found (Exit (net_of c.args.self.now) c.args.exit) w.exit.result (subst (λ e. Found w.exit.result (Exit (net_of c.args.self.now) e)) w.from.ensures w.exit.ensures) (sym w.is_some.ensures ∙ (sym w.value-is ∙ c.if-is_some.true)) in
      ((λ e. record { diverge = c.is_diverge.ensures.0 w.if-is_diverge.true; exit = x; leaves = c.leaves.ensures.0 e }), (λ f. c.leaves.ensures.1 f.leaves)))
  | else-is_diverge w ↦ absurd (both_ways c.is_diverge.result w.if-is_diverge.false (sym w.value-is ∙ c.if-is_some.true))
]
