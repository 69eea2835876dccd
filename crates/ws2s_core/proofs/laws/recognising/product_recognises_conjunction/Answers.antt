use Rattle.gta_theory.specs.Automata.{Has}
use Rattle.ws2s_core.proofs.RecognisingLemmas.{Recognises-And}
use Rattle.ws2s_core.proofs.laws.recognising.product_recognises_conjunction.Goals as goal

pub returns : goal.returns
returns c = λ g A B C e f states pair guide of_A of_B. Recognises-And g guide A e of_A B f of_B C (Has states) pair
