use Rattle.pale_print_laws.proofs.PlacePrograms.{well_made}
use Rattle.pale_print_laws.proofs.place_laws.words_stand_at_their_places.Goals as goal

pub returns : goal.returns
returns c = λ tokens steps tree program. (well_made tokens steps tree program).words
