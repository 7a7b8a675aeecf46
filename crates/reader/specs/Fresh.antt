-- The corridor that is there before any is read.
use Rattle.std.specs.Prelude.{None}
use Rattle.network.specs.Drafts.{fresh_net}
use Rattle.merge.specs.declared.choice.Choice.TheVariants.{Fair}
use Rattle.reader.specs.Said.{Said}

abbrev pub fresh_said : Said
fresh_said = record { net = fresh_net; rule = Fair; meters = λ n. None }
