use Rattle.std.proofs.Common.{◌≡◌, vec_len}
use Rattle.gta_room.specs.Progress.{Adds}
use Rattle.gta_minimise.specs.Renamed.{IsRenamed, AreMade}
use Rattle.gta_minimise.proofs.nodes.make_nodes.Given as goal

abbrev pub invariant-loop-index : goal.invariant-loop-index
invariant-loop-index l = record {
  many : vec_len l.refs ≡ l.index;
  made : AreMade l.shelf l.classes l.nodes l.marks l.refs.items;
  adds : Adds (IsRenamed l.classes l.nodes l.marks) l.fn.shelf l.shelf;
}
