use Rattle.std.proofs.Common.{◌≡◌, map, take}
use Rattle.std.specs.Prelude.{All}
use Rattle.bdd_nodes.specs.Shelf.{IsValid}
use Rattle.gta_merge.specs.Lines.{some_root, root_beside}
use Rattle.gta_merge.proofs.lines.line_of.Given as goal

abbrev pub invariant-loop-other : goal.invariant-loop-other
invariant-loop-other l = record {
  items : map some_root l.line.items ≡ map (root_beside l.shelf l.a l.space l.side l.state) (take l.other-index l.others);
  valid : All (IsValid l.shelf) l.line.items;
}
