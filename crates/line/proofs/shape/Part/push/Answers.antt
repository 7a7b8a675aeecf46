use Rattle.line.proofs.Pieces.{stored}
use Rattle.line.proofs.shape.Part.push.Goals as goal

pub returns-clause-area : goal.returns-clause-area
returns-clause-area g c = stored c.args.area.now c.args.self.now c.requires.room c.requires.sound c.args.x _ _ c.push_on.ensures.told c.push_on.ensures.slots
