use Rattle.tree_store.proofs.NumbersLemmas.{fields-apart, variables-apart}
use Rattle.tree_store.proofs.meaning.numbers_tell_fields_and_variables_apart.Goals as goal

pub returns : goal.returns
returns c = record { fields = fields-apart; variables = variables-apart }
