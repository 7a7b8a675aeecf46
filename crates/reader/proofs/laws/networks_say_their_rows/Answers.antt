use Rattle.reader.proofs.Faithful.{all_faithful}
use Rattle.reader.proofs.laws.networks_say_their_rows.Goals as goal

pub returns : goal.returns
returns c = all_faithful
