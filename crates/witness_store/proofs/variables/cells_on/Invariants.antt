use Rattle.std.proofs.Common.{◌≡◌, ◌<◌, suc, List, take}
use Rattle.std.specs.List.{AllByRecursion}
use Rattle.ws2s_core.specs.LabelTrees.{IsTree, assignment_of}
use Rattle.tree_store.specs.Decoded.{Standing, is_on, all_where}
use Rattle.witness_store.specs.Finding.{AreFoundAs}
use Rattle.witness_store.proofs.variables.cells_on.Given as goal

-- the cells so far that are on the track
abbrev pub invariant-loop-cell : goal.invariant-loop-cell
invariant-loop-cell l = record {
  number : l.number ≡ suc l.cell-index;
  below : AllByRecursion (λ d. d.0 < l.number) l.named;
  named : (standing : List Standing) → IsTree l.nodes → AreFoundAs l.nodes l.cells standing →
      l.named ≡ all_where (is_on (assignment_of l.nodes) l.track) 1 (take l.cell-index standing);
}
