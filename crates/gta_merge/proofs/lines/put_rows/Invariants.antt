use Rattle.std.specs.Prelude.{All}
use Rattle.bdd_nodes.specs.Shelf.{IsValid}
use Rattle.gta_core.specs.Auto.{root_at}
use Rattle.gta_merge.proofs.RowsLemmas.{RowsBelow}
use Rattle.gta_merge.proofs.lines.put_rows.Given as goal

abbrev pub invariant-loop-left : goal.invariant-loop-left
invariant-loop-left l = record {
  rows : RowsBelow (root_at l.shelf l.a l.space) l.lefts l.rights l.initial.roots l.left-index l.roots;
  valid : All (IsValid l.shelf) l.roots;
}
