use Rattle.pale_print_laws.proofs.ShortLemmas.{shortest}
use Rattle.pale_print_laws.proofs.laws.spellings_are_shortest.Goals as goal

pub returns : goal.returns
returns c = shortest
