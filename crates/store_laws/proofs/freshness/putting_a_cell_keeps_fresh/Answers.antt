use Rattle.store_laws.proofs.FreshLemmas.{IsFresh-put_cell}
use Rattle.store_laws.proofs.freshness.putting_a_cell_keeps_fresh.Goals as goal

pub returns : goal.returns
returns c = IsFresh-put_cell
