use Rattle.reader.proofs.Answering.{one_call}
use Rattle.reader.proofs.laws.calls_have_one_answer.Goals as goal

pub returns : goal.returns
returns c = one_call
