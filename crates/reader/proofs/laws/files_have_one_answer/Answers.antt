use Rattle.reader.proofs.Answering.{one_answer}
use Rattle.reader.proofs.laws.files_have_one_answer.Goals as goal

pub returns : goal.returns
returns c = one_answer
