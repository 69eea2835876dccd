use Rattle.gta_theory.specs.Automata.{Has}
use Rattle.ws2s_core.proofs.RecognisingLemmas.{Recognises-classes}
use Rattle.ws2s_core.proofs.laws.recognising.classes_recognise_the_same.Goals as goal

pub returns : goal.returns
returns c = λ g A M f states class_of guide of_A. Recognises-classes g guide A f of_A (Has states) M class_of
