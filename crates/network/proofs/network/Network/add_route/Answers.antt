use Rattle.std.proofs.Common.{true, false, ◌≡◌, ℕ, Option, Some, None, sym, subst, ◌∙◌, arith, refl}
use Rattle.std.proofs.lemmas.Bool.{both_ways}
use Rattle.std.specs.Option.{is_some}
use Rattle.network.specs.Layouts.{route_at}
use Rattle.network.proofs.Rights.{right_of}
use Rattle.network.proofs.Routing.{fits_in}
use Rattle.network.proofs.network.Network.add_route.Goals as goal

pub overflow_cast-exit : goal.overflow_cast-exit
overflow_cast-exit c =
    let n = c.args.self.now in
    let q = fits_in n.layout (right_of n) c.args.node c.args.exit c.args.link (c.route_fits.ensures.0 c.if-not-route_fits.false) in
    omega (arith, q.1)

some : (o : Option ℕ) → is_some o ≡ true → (i : ℕ) × (o ≡ Some i)
some None e = absurd (both_ways false refl e)
some (Some i) e = (i, refl)

pub returns-then-is_some : goal.returns-then-is_some
returns-then-is_some c =
    let s = some c.route.result (sym c.is_some.ensures ∙ c.if-is_some.true) in
    (c.route_fits.ensures.0 c.if-not-route_fits.false, (s.0, subst (λ n. route_at c.args.self.now.layout n c.args.exit ≡ Some s.0) c.from.ensures (sym c.route.ensures ∙ s.1)), refl)
