use Rattle.std.proofs.Common.{◌≡◌, ◌+◌, ◌≤◌, vec_len}
use Rattle.bdd_nodes.specs.Shelf.{IsShelf, count_of, limit_of}
use Rattle.gta_refine.specs.Numbered.{AreNumbered}
use Rattle.gta_refine.proofs.numbers.number_nodes.Given as goal

abbrev pub invariant-loop-index : goal.invariant-loop-index
invariant-loop-index l = record {
  is_shelf : IsShelf l.shelf;
  count : count_of l.shelf ≤ count_of l.fn.shelf + l.index;
  limit : limit_of l.shelf ≡ limit_of l.fn.shelf;
  many : vec_len l.refs ≡ l.index;
  numbered : AreNumbered l.shelf l.classes l.nodes l.refs.items;
}
