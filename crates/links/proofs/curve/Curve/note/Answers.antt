use Rattle.std.proofs.Common.{◌≡◌, true, [], ◌∷◌, ◌++◌, is_ok, refl, sym, ap, ◌∙◌, arith}
use Rattle.std.proofs.lemmas.Bool.{cond-true}
use Rattle.line.specs.Ring.{rest}
use Rattle.links.specs.Readings.{head_of}
use Rattle.links.proofs.Turning.{Whole, as_held, has_room, next_of}
use Rattle.links.proofs.curve.Curve.note.Goals as goal

pub unwrap-requires : goal.unwrap-requires
unwrap-requires c = let q = c.queue-queue.ensures in let t = c.take.ensures in c.push.ensures.told ∙ has_room c.queue-queue.result c.take.new.self q.len q.size t.len t.size

pub returns : goal.returns
returns c =
    let q = c.queue-queue.ensures in
    let t = c.take.ensures in
    let p = c.push.ensures in
    let curve = c.args.self.now in
    let yes : is_ok c.push.result ≡ true = p.told ∙ has_room c.queue-queue.result c.take.new.self q.len q.size t.len t.size in
    let held_before = as_held curve.slots c.queue-queue.result (head_of curve) (record { start = q.start; size = q.size; head = q.head; len = q.len }) in
    let whole : Whole c.push.new.self c.push.new.self.head = record {
      start = p.start ∙ t.start ∙ q.start;
      size = p.size ∙ t.size ∙ q.size;
      head = refl;
      len = omega (arith, p.len ∙ cond-true (is_ok c.push.result) _ _ yes, t.len, q.len);
    } in
    let held_after = as_held c.push.new.area c.push.new.self c.push.new.self.head whole in
    next_of curve _ c.args.x (omega (arith, whole.size, p.sound.inside)) (sym held_after ∙ p.holds ∙ cond-true (is_ok c.push.result) _ _ yes ∙ ap (λ xs. xs ++ c.args.x ∷ []) (t.holds ∙ ap rest held_before))
