use Rattle.field_judge.proofs.LightestLemmas.{refutes-from, not-functional}
use Rattle.field_judge.proofs.laws.ambiguous_fields_are_not_functional.Goals as goal

pub returns : goal.returns
returns c = record { refutes = refutes-from; so = not-functional }
