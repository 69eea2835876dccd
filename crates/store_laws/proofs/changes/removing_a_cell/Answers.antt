use Rattle.store_laws.proofs.ChangeLemmas.{IsRemoved-remove_cell}
use Rattle.store_laws.proofs.changes.removing_a_cell.Goals as goal

pub returns : goal.returns
returns c = IsRemoved-remove_cell
