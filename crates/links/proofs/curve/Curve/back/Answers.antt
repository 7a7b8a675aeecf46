use Rattle.std.proofs.Common.{◌-◌, ap, ◌∙◌}
use Rattle.std.specs.List.{slice_get}
use Rattle.links.specs.Readings.{head_of}
use Rattle.links.proofs.Turning.{as_held, ago_of}
use Rattle.links.proofs.curve.Curve.back.Goals as goal

pub returns : goal.returns
returns c =
    let q = c.queue.ensures in
    let e = as_held c.args.self.now.slots c.queue.result (head_of c.args.self.now) (record { start = q.start; size = q.size; head = q.head; len = q.len }) in
    ago_of c.args.self.now c.args.k c.look.result c.requires.near (c.look.ensures ∙ ap (λ xs. slice_get xs (63 - c.args.k)) e)
