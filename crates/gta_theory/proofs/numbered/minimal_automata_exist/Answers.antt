use Rattle.gta_theory.proofs.MinimalExistsLemmas.{IsMinimal-exists}
use Rattle.gta_theory.proofs.numbered.minimal_automata_exist.Goals as goal

pub returns : goal.returns
returns c = IsMinimal-exists
