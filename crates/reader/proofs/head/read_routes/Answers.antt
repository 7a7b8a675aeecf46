use Rattle.std.proofs.Common.{ℕ, List, ◌∙◌, subst, ⊎_elim}
use Rattle.std.proofs.lemmas.Result.{err_from_is_err_and}
use Rattle.rows.specs.declared.kind.Stage.TheVariants.{Routes}
use Rattle.rows.specs.declared.row.Row.TheVariants.{Route, Merge}
use Rattle.reader.specs.Faults.{file_told}
use Rattle.reader.proofs.Standing.{refused_in, step_as}
use Rattle.reader.proofs.Taking.{not_routes, route_misfit, route_second, route_on, merge_on}
use Rattle.reader.proofs.head.read_routes.Goals as goal

pub returns-in_err-node-clause-goes : goal.returns-in_err-node-clause-goes
returns-in_err-node-clause-goes c =
    let told = c.in_err-node.ensures in
    let r = err_from_is_err_and c.from_residual.result c.from_residual.ensures.1 in
    rw (r.1, r.2) (λ l₀ p₀ g. refused_in _ _ l₀ p₀ c.loop-node.reader.at Routes c.args.counts.nodes c.args.counts.links _ c.loop-node.invariant.0 (c.loop-node.invariant.1 l₀ p₀ g) not_routes (file_told c.in_err-node.field-0.0) told.next)

pub loop-node-preserved : goal.loop-node-preserved
loop-node-preserved c =
    let told = c.in_ok-node.ensures in
    let took = c.in_ok-add_route-in-Route.ensures in
    let a = c.in-Route in
    let same = c.loop-node.invariant.0 in
    let step = step_as _ _ c.loop-node.reader.at.place c.loop-node.reader.at.line Routes c.args.counts.nodes c.args.counts.links (Route a.node a.exit a.link) c.in_ok-node.field-0 _ _ same a.is told.next in (
      told.kept ∙ same,
      λ l₀ p₀ g. route_on _ l₀ p₀ c.loop-node.reader.at.line c.loop-node.reader.at.place c.args.counts.nodes c.args.counts.links c.loop-node.grown (c.loop-node.invariant.1 l₀ p₀ g) a.node a.exit a.link step.0 _ _ c.add_route.new.network took.0 took.1 took.2 step.1 step.2,
    )

pub returns-in_err-add_route-in-Route-clause-goes : goal.returns-in_err-add_route-in-Route-clause-goes
returns-in_err-add_route-in-Route-clause-goes c =
    let told = c.in_ok-node.ensures in
    let bad = c.in_err-add_route-in-Route.ensures in
    let f = c.in_err-add_route-in-Route.field-0.0 in
    let a = c.in-Route in
    let same = c.loop-node.invariant.0 in
    let step = step_as _ _ c.loop-node.reader.at.place c.loop-node.reader.at.line Routes c.args.counts.nodes c.args.counts.links (Route a.node a.exit a.link) c.in_ok-node.field-0 _ _ same a.is told.next in
    let r = err_from_is_err_and c.from_residual-in_err-add_route-in-Route.result c.from_residual-in_err-add_route-in-Route.ensures.1 in
    rw (r.1, r.2) (λ l₀ p₀ g. ⊎_elim
    (λ h. route_misfit _ l₀ p₀ c.loop-node.reader.at.line c.loop-node.reader.at.place c.args.counts.nodes c.args.counts.links c.loop-node.grown (c.loop-node.invariant.1 l₀ p₀ g) a.node a.exit a.link step.0 f _ h.0 c.position-start.ensures h.1)
    (λ h. route_second _ l₀ p₀ c.loop-node.reader.at.line c.loop-node.reader.at.place c.args.counts.nodes c.args.counts.links c.loop-node.grown (c.loop-node.invariant.1 l₀ p₀ g) a.node a.exit a.link step.0 f _ h.2.0 h.0 c.position-start.ensures h.1 h.2.1)
    bad)

pub returns-in-Merge-clause-goes : goal.returns-in-Merge-clause-goes
returns-in-Merge-clause-goes c =
    let told = c.in_ok-node.ensures in
    let same = c.loop-node.invariant.0 in
    let step = step_as _ _ c.loop-node.reader.at.place c.loop-node.reader.at.line Routes c.args.counts.nodes c.args.counts.links (Merge c.in-Merge.rule) c.in_ok-node.field-0 _ _ same c.in-Merge.is told.next in
    λ l₀ p₀ g. merge_on _ l₀ p₀ c.loop-node.reader.at.line c.loop-node.reader.at.place c.args.counts.nodes c.args.counts.links c.loop-node.grown (c.loop-node.invariant.1 l₀ p₀ g) _ _ c.in-Merge.rule step.0 step.1 step.2
