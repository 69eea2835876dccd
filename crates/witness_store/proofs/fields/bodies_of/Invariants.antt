use Rattle.std.proofs.Common.{◌≡◌, suc, List, take}
use Rattle.ws2s_core.specs.LabelTrees.{assignment_of}
use Rattle.store_core.specs.StoreBodies.{AreLive, IsKept, cells_of}
use Rattle.tree_store.specs.Decoded.{Standing, entries_in}
use Rattle.witness_store.specs.Finding.{AreFoundAs}
use Rattle.witness_store.specs.Reading.{AreRead}
use Rattle.witness_store.proofs.fields.bodies_of.Given as goal

-- the cells so far
abbrev pub invariant-loop-cell : goal.invariant-loop-cell
invariant-loop-cell l = record {
  number : l.number ≡ suc l.cell-index;
  kept : IsKept l.bodies.items l.number;
  live : AreLive l.bodies.items;
  entries : (standing : List Standing) → AreRead l.l.types l.nodes standing l.numbers → AreFoundAs l.nodes l.cells standing →
      cells_of l.bodies.items ≡ entries_in l.l.types (assignment_of l.nodes) standing 1 (take l.cell-index standing);
}
