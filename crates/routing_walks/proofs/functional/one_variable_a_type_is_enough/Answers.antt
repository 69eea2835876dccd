use Rattle.routing_walks.proofs.OneEachLemmas.{functional_from, functional_refuted}
use Rattle.routing_walks.proofs.functional.one_variable_a_type_is_enough.Goals as goal

pub returns : goal.returns
returns c = λ types vars f each. (functional_refuted types vars f, functional_from types vars f each)
