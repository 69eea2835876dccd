use Rattle.gta_theory.proofs.NumberedLemmas.{IsNumbered-counted}
use Rattle.gta_theory.proofs.numbered.finite_automata_can_be_numbered.Goals as goal

pub returns : goal.returns
returns c = IsNumbered-counted
