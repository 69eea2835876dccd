use Rattle.store_laws.proofs.ChangeLemmas.{IsPut-put_cell}
use Rattle.store_laws.proofs.changes.putting_a_cell.Goals as goal

pub returns : goal.returns
returns c = IsPut-put_cell
