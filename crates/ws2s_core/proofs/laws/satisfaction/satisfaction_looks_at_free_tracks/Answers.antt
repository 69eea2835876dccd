use mathlib.Core.Path.{fun_ext}
use Rattle.ws2s_core.proofs.TracksLemmas.{WSat-free}
use Rattle.ws2s_core.proofs.laws.satisfaction.satisfaction_looks_at_free_tracks.Goals as goal

pub returns : goal.returns
returns c = λ f a b agree. WSat-free f a b (λ t free. fun_ext (agree t free))
