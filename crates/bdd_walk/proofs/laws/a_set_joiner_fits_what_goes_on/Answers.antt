use Rattle.bdd_walk.proofs.FitsLemmas.{FitsSets-kept}
use Rattle.bdd_walk.proofs.laws.a_set_joiner_fits_what_goes_on.Goals as goal

pub returns : goal.returns
returns c = λ joiner dropped old new answers more keeps kept fits. FitsSets-kept old new answers more keeps kept joiner dropped fits
