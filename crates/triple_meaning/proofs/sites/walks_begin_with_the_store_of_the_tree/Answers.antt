use Rattle.triple_meaning.proofs.sites.TriplesLemmas.{started-sees}
use Rattle.triple_meaning.proofs.sites.walks_begin_with_the_store_of_the_tree.Goals as goal

pub returns : goal.returns
returns c = λ types vars start a first next over room. started-sees types vars start a first next over room
