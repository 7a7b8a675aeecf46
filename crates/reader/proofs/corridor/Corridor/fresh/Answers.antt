use Rattle.merge.specs.declared.choice.Choice.TheVariants.{Fair}
use Rattle.reader.specs.Files.{numbers_of}
use Rattle.reader.proofs.corridor.Corridor.fresh.Goals as goal

pub returns : goal.returns
returns c = λ i. record { net = c.fresh.ensures i; rule = Fair; meters = λ n. numbers_of (c.none.ensures i n) }
