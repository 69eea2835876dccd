use Rattle.gta_core.proofs.AutoLemmas.{automaton_of-kept, IsAuto-kept}
use Rattle.gta_core.proofs.laws.automata_outlive_changes.Goals as goal

pub returns-clause-auto : goal.returns-clause-auto
returns-clause-auto c = λ g old new a keeps auto. IsAuto-kept old new a keeps g auto

pub returns-clause-same : goal.returns-clause-same
returns-clause-same c = automaton_of-kept
