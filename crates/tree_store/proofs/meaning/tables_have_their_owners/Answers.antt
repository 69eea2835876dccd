use Rattle.tree_store.proofs.TablesLemmas.{owners-there}
use Rattle.tree_store.proofs.meaning.tables_have_their_owners.Goals as goal

pub returns : goal.returns
returns c = owners-there
