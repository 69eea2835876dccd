use Rattle.std.proofs.Common.{IsTrue}
use Rattle.gta_theory.specs.Automata.{Has}
use Rattle.ws2s_core.proofs.RecognisingLemmas.{Recognises-Ex2}
use Rattle.ws2s_core.proofs.laws.recognising.subset_recognises_quantifier.Goals as goal

pub returns : goal.returns
returns c = λ g A B t f states member guide of_A. Recognises-Ex2 g guide A f of_A t B (Has states) (λ s x q. IsTrue (member s x q))
