use Rattle.program_judge.proofs.FieldsLemmas.{field-somehow}
use Rattle.program_judge.proofs.laws.fields_are_functional_or_a_least_backbone_forks.Goals as goal

pub returns : goal.returns
returns c = field-somehow
