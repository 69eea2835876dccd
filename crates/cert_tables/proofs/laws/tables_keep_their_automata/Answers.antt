use Rattle.cert_tables.proofs.KeptLemmas.{automaton-kept}
use Rattle.cert_tables.proofs.laws.tables_keep_their_automata.Goals as goal

pub returns : goal.returns
returns c d more table are = automaton-kept d table are more
