use Rattle.store_laws.proofs.FreshLemmas.{IsFresh-remove_cell}
use Rattle.store_laws.proofs.freshness.removing_a_cell_keeps_fresh.Goals as goal

pub returns : goal.returns
returns c = IsFresh-remove_cell
