use Rattle.pale_print_laws.proofs.PlacePrograms.{well_made}
use Rattle.pale_print_laws.proofs.place_laws.acts_have_their_operands.Goals as goal

pub returns : goal.returns
returns c = λ tokens steps tree program. (well_made tokens steps tree program).operands
