use Rattle.gta_theory.proofs.CountingLemmas.{count-alike}
use Rattle.gta_theory.proofs.minimal.alike_automata_have_as_many_states.Goals as goal

pub returns : goal.returns
returns c = count-alike
