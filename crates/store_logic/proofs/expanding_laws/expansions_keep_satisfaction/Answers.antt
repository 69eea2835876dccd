use Rattle.store_logic.proofs.ExpandingBodies.{Sat-expansion}
use Rattle.store_logic.proofs.expanding_laws.expansions_keep_satisfaction.Goals as goal

pub returns : goal.returns
returns c = Sat-expansion
