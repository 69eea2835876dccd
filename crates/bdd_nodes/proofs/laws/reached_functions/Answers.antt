use Rattle.bdd_nodes.proofs.UnderLemmas.{ReachesFunction-fixed, IsUnder-reached}
use Rattle.bdd_nodes.proofs.laws.reached_functions.Goals as goal

pub returns-clause-under : goal.returns-clause-under
returns-clause-under c = λ shelf from r is_shelf valid reached. IsUnder-reached shelf is_shelf from r valid reached

pub returns-clause-reached : goal.returns-clause-reached
returns-clause-reached c = λ shelf from k fixed is_shelf valid. ReachesFunction-fixed shelf is_shelf from k fixed valid
