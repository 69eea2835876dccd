use Rattle.std.proofs.Common.{◌≡◌, length}
use Rattle.bdd_nodes.specs.Shelf.{IsShelf}
use Rattle.gta_gallery.specs.Functions.{GoTo}
use Rattle.gta_gallery.proofs.chain.chain.Given as goal

abbrev pub invariant-loop-state : goal.invariant-loop-state
invariant-loop-state l = record {
  many : length l.refs ≡ l.state;
  go : GoTo l.shelf l.states l.refs;
  shelf : IsShelf l.shelf;
}
