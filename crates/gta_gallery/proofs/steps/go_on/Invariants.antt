use Rattle.bdd_nodes.specs.Shelf.{IsShelf}
use Rattle.gta_core.specs.Auto.{IsAuto}
use Rattle.gta_gallery.proofs.steps.go_on.Given as goal

abbrev pub invariant-loop-word : goal.invariant-loop-word
invariant-loop-word l = record { shelf : IsShelf l.shelf; auto : IsAuto l.g l.shelf l.a }
