use Rattle.std.specs.List.{All}
use Rattle.bdd_nodes.specs.Shelf.{IsValid}
use Rattle.kernel_gallery.proofs.joins.chosen.Given as goal

abbrev pub invariant-loop-word : goal.invariant-loop-word
invariant-loop-word l = All (IsValid l.shelf) l.roots
