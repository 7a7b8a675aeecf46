use Rattle.newell.proofs.Order.{is_in_order}
use Rattle.newell.proofs.theorems.order_kept.Goals as goal

pub returns : goal.returns
returns c = is_in_order
