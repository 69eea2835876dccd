use Rattle.store_ends.proofs.PlacesLemmas.{ends-below}
use Rattle.store_ends.proofs.laws.codes_end_at_cuts_that_they_name.Goals as goal

pub returns : goal.returns
returns c = λ types code s t place n below. ends-below types n code s t place below
