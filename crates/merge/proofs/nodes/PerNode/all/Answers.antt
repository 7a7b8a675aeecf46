use Rattle.merge.proofs.Places.{all_same}
use Rattle.merge.proofs.nodes.PerNode.all.Goals as goal

pub returns : goal.returns
returns g c = all_same c.args.value
