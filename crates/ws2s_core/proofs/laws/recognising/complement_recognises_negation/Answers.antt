use Rattle.ws2s_core.proofs.RecognisingLemmas.{Recognises-Not}
use Rattle.ws2s_core.proofs.laws.recognising.complement_recognises_negation.Goals as goal

pub returns : goal.returns
returns c = λ g A f guide. Recognises-Not g guide A f
