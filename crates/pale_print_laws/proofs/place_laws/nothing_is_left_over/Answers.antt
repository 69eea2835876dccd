use Rattle.pale_print_laws.proofs.PlacePrograms.{well_made}
use Rattle.pale_print_laws.proofs.place_laws.nothing_is_left_over.Goals as goal

pub returns : goal.returns
returns c = λ tokens steps tree program. (well_made tokens steps tree program).alone
