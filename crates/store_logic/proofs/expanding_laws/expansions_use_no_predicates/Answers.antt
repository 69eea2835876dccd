use Rattle.store_logic.proofs.ExpandingBodies.{uses-expansion}
use Rattle.store_logic.proofs.expanding_laws.expansions_use_no_predicates.Goals as goal

pub returns : goal.returns
returns c = uses-expansion
