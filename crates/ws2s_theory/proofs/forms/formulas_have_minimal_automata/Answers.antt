use Rattle.ws2s_theory.proofs.FormsLemmas.{Formed-all}
use Rattle.ws2s_theory.proofs.forms.formulas_have_minimal_automata.Goals as goal

pub returns : goal.returns
returns c = λ g f guide. let (M, count, k, of_M) = Formed-all g guide f in (M, count, k, of_M.minimal, of_M.looks)
