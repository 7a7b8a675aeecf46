use Rattle.reader.proofs.Writing.{all_written}
use Rattle.reader.proofs.laws.corridors_have_texts.Goals as goal

pub returns : goal.returns
returns c = all_written
