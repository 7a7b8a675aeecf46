use Rattle.std.proofs.Common.{ℕ, List, sym, refl, ◌∙◌, subst, ⊎_elim}
use Rattle.std.proofs.lemmas.Result.{err_from_is_err_and}
use Rattle.network.specs.Nets.{net_of}
use Rattle.rows.specs.declared.kind.Stage.TheVariants.{Meters}
use Rattle.rows.specs.declared.row.Row.TheVariants.{Meter, Go}
use Rattle.reader.specs.Faults.{file_told}
use Rattle.reader.specs.Files.{numbers_of}
use Rattle.reader.specs.Heads.{said}
use Rattle.reader.proofs.Standing.{refused_in, step_as}
use Rattle.reader.proofs.Taking.{got_as, not_meters, meter_second, meter_misplaced, meter_on, go_on}
use Rattle.reader.proofs.head.read_meters.Goals as goal

pub loop-node-init : goal.loop-node-init
loop-node-init c =
    let a = c.args.reader.now in
    (refl, λ l₀ p₀ rule g. got_as a.file.now l₀ p₀ a.at.line a.at.place Meters c.args.counts.nodes c.args.counts.links _ _ (λ i. said (net_of c.args.network.now) rule (λ n. numbers_of (sym c.none-gates.ensures i n))) g)

pub returns-in_err-node-clause-goes : goal.returns-in_err-node-clause-goes
returns-in_err-node-clause-goes c =
    let told = c.in_err-node.ensures in
    let r = err_from_is_err_and c.from_residual.result c.from_residual.ensures.1 in
    rw (r.1, r.2) (λ l₀ p₀ rule g. refused_in _ _ l₀ p₀ c.loop-node.reader.at Meters c.args.counts.nodes c.args.counts.links _ c.loop-node.invariant.0 (c.loop-node.invariant.1 l₀ p₀ rule g) not_meters (file_told c.in_err-node.field-0.0) told.next)

pub loop-node-preserved : goal.loop-node-preserved
loop-node-preserved c =
    let told = c.in_ok-node.ensures in
    let took = c.in_ok-add_meter-in-Meter.ensures in
    let a = c.in-Meter in
    let same = c.loop-node.invariant.0 in
    let step = step_as _ _ c.loop-node.reader.at.place c.loop-node.reader.at.line Meters c.args.counts.nodes c.args.counts.links (Meter a.node a.rate a.period) c.in_ok-node.field-0 _ _ same a.is told.next in (
      told.kept ∙ same,
      λ l₀ p₀ rule g. meter_on _ l₀ p₀ c.loop-node.reader.at.line c.loop-node.reader.at.place c.args.counts.nodes c.args.counts.links c.args.network.now rule c.loop-node.gates (c.loop-node.invariant.1 l₀ p₀ rule g) a.node a.rate a.period step.0 _ _ c.add_meter.new.gates took.0 took.1 took.2 step.1 step.2,
    )

pub returns-in_err-add_meter-in-Meter-clause-goes : goal.returns-in_err-add_meter-in-Meter-clause-goes
returns-in_err-add_meter-in-Meter-clause-goes c =
    let told = c.in_ok-node.ensures in
    let bad = c.in_err-add_meter-in-Meter.ensures in
    let f = c.in_err-add_meter-in-Meter.field-0.0 in
    let a = c.in-Meter in
    let same = c.loop-node.invariant.0 in
    let step = step_as _ _ c.loop-node.reader.at.place c.loop-node.reader.at.line Meters c.args.counts.nodes c.args.counts.links (Meter a.node a.rate a.period) c.in_ok-node.field-0 _ _ same a.is told.next in
    let r = err_from_is_err_and c.from_residual-in_err-add_meter-in-Meter.result c.from_residual-in_err-add_meter-in-Meter.ensures.1 in
    rw (r.1, r.2) (λ l₀ p₀ rule g. ⊎_elim
    (λ h. meter_second _ l₀ p₀ c.loop-node.reader.at.line c.loop-node.reader.at.place c.args.counts.nodes c.args.counts.links c.args.network.now rule c.loop-node.gates (c.loop-node.invariant.1 l₀ p₀ rule g) a.node a.rate a.period step.0 f _ h.1.0 h.1.1 h.0 c.position-start.ensures h.1.2)
    (λ h. meter_misplaced _ l₀ p₀ c.loop-node.reader.at.line c.loop-node.reader.at.place c.args.counts.nodes c.args.counts.links c.args.network.now rule c.loop-node.gates (c.loop-node.invariant.1 l₀ p₀ rule g) a.node a.rate a.period step.0 f _ h.0 c.position-start.ensures h.1 h.2)
    bad)

pub returns-in-Go-clause-goes : goal.returns-in-Go-clause-goes
returns-in-Go-clause-goes c =
    let told = c.in_ok-node.ensures in
    let same = c.loop-node.invariant.0 in
    let step = step_as _ _ c.loop-node.reader.at.place c.loop-node.reader.at.line Meters c.args.counts.nodes c.args.counts.links Go c.in_ok-node.field-0 _ _ same c.in-Go.is told.next in
    λ l₀ p₀ rule g. go_on _ l₀ p₀ c.loop-node.reader.at.line c.loop-node.reader.at.place c.args.counts.nodes c.args.counts.links c.args.network.now rule c.loop-node.gates (c.loop-node.invariant.1 l₀ p₀ rule g) _ _ _ c.position-start.ensures step.0 step.1 step.2
