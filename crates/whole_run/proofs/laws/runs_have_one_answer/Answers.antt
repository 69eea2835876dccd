use Rattle.whole_run.proofs.OneAnswer.{answers_one}
use Rattle.whole_run.proofs.laws.runs_have_one_answer.Goals as goal

pub returns : goal.returns
returns c = λ program number s n answer other h k. answers_one program number s n answer other h k
