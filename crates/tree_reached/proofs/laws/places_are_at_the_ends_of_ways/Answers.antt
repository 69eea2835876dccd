use Rattle.tree_reached.proofs.WaysLemmas.{reached-ends}
use Rattle.tree_reached.proofs.laws.places_are_at_the_ends_of_ways.Goals as goal

pub returns : goal.returns
returns c = λ types vars next ty. reached-ends types vars next ty
