use Rattle.program_judge.proofs.EndingLemmas.{all-functional}
use Rattle.program_judge.proofs.laws.reports_of_functional_fields_are_true.Goals as goal

pub returns : goal.returns
returns c = all-functional
