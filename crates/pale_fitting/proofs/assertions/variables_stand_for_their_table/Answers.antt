use Rattle.pale_fitting.proofs.BindingLemmas.{variables-stand}
use Rattle.pale_fitting.proofs.assertions.variables_stand_for_their_table.Goals as goal

pub returns : goal.returns
returns c = variables-stand
