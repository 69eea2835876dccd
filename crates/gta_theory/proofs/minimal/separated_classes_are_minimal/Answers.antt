use Rattle.gta_theory.specs.Automata.{Has}
use Rattle.gta_theory.proofs.MinimalLemmas.{IsMinimal-classes}
use Rattle.gta_theory.proofs.minimal.separated_classes_are_minimal.Goals as goal

pub returns : goal.returns
returns c = λ g A M states classes class_of guide stable reached naming.
    IsMinimal-classes g guide A stable (Has states) reached M class_of naming (Has classes)
