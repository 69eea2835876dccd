use Rattle.field_judge.proofs.OneEachLemmas.{one_each}
use Rattle.field_judge.proofs.laws.type_vars_are_one_each.Goals as goal

pub returns : goal.returns
returns c = one_each
