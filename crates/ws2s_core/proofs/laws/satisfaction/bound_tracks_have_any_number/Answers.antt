use Rattle.ws2s_core.proofs.TracksLemmas.{WSat-bound}
use Rattle.ws2s_core.proofs.laws.satisfaction.bound_tracks_have_any_number.Goals as goal

pub returns : goal.returns
returns c = λ t u f a not_free. WSat-bound t u f not_free a
