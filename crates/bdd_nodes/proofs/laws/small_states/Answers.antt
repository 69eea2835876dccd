use Rattle.bdd_nodes.proofs.SplitLemmas.{small_state}
use Rattle.bdd_nodes.proofs.laws.small_states.Goals as goal

pub returns : goal.returns
returns c = λ shelf r label is_shelf valid. small_state shelf is_shelf label r valid
