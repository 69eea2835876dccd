use Rattle.pale_print_laws.proofs.BackLemmas.{read_back}
use Rattle.pale_print_laws.proofs.laws.canonical_programs_are_read_back.Goals as goal

pub returns : goal.returns
returns c = read_back
