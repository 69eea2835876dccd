use Rattle.pale_fitting.proofs.NamingLemmas.{names-of}
use Rattle.pale_fitting.proofs.declarations.names_of_declarations_are_those_of_their_table.Goals as goal

pub returns : goal.returns
returns c = names-of
