use Rattle.std.proofs.Common.{refl}
use Rattle.rows.specs.declared.row.Row.TheVariants.{Net}
use Rattle.rows.specs.declared.kind.Stage.TheVariants.{Start}
use Rattle.std.proofs.lemmas.Result.{err_from_is_err_and}
use Rattle.reader.specs.Faults.{file_told}
use Rattle.reader.proofs.Standing.{refused_line, step_as}
use Rattle.reader.proofs.Taking.{got_none, net_on, not_start}
use Rattle.reader.proofs.head.read_net.Goals as goal

pub returns-in_err-nodes-clause-opens : goal.returns-in_err-nodes-clause-opens
returns-in_err-nodes-clause-opens c =
    let a = c.args.reader.now in
    let told = c.in_err-nodes.ensures in
    let r = err_from_is_err_and c.from_residual.result c.from_residual.ensures.1 in
    let out = refused_line a.file.now a.at.line a.at.place a.at.line a.at.place Start 0 0 _ (got_none a.file.now a.at.line a.at.place) not_start (file_told c.in_err-nodes.field-0.0) told.next in
    rw (r.1, r.2) (out)

pub returns-clause-opens : goal.returns-clause-opens
returns-clause-opens c =
    let a = c.args.reader.now in
    let told = c.in_ok-nodes.ensures in
    let step = step_as a.file.now a.file.now a.at.place a.at.line Start 0 0 (Net c.in-Net.nodes c.in-Net.links) c.in_ok-nodes.field-0 _ _ refl c.in-Net.is told.next in
    net_on a.file.now a.at.line a.at.place _ _ c.in-Net.nodes c.in-Net.links step.0 step.1 step.2
