use Rattle.std.proofs.Common.{refl}
use Rattle.links.proofs.Keeping.{laid_of}
use Rattle.links.proofs.Noting.{noted_at, lies_noted}
use Rattle.links.proofs.records.Yard.note.Goals as goal

pub invariant_of-self : goal.invariant_of-self
invariant_of-self c = let y = c.args.self.now in record { laid = ∣ lies_noted y.table c.note.new.self c.args.i c.args.on c.args.off c.args.travel c.note.ensures.here c.note.ensures.rest _ _ (laid_of y) refl ∣₁ }

pub returns : goal.returns
returns c = noted_at c.args.self.now _ c.args.i c.args.on c.args.off c.args.travel c.note.ensures.here c.note.ensures.rest refl refl
