use Rattle.ws2s_core.proofs.TracksLemmas.{WSat-renamed}
use Rattle.ws2s_core.proofs.laws.satisfaction.satisfaction_goes_along_with_names.Goals as goal

pub returns : goal.returns
returns c = λ f r a injective. WSat-renamed r injective f a
