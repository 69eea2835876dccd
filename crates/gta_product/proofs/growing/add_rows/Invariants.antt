use Rattle.std.specs.Prelude.{◌≡◌, ◌≤◌, ◌⊎◌, List, [], length, Some, slice_get}
use Rattle.std.proofs.Common.{ℕ}
use Rattle.bdd_nodes.specs.declared.node_ref.NodeRef.{NodeRef}
use Rattle.gta_product.proofs.growing.add_rows.Given as goal

abbrev pub invariant-loop-row : goal.invariant-loop-row
invariant-loop-row l = record {
  at : length l.cells.items ≡ l._row;
  few : length l.cells.items ≤ l.many;
  rows : (i : ℕ) (roots : List NodeRef) → slice_get l.cells.items i ≡ Some roots → (slice_get l.fn.cells.items i ≡ Some roots) ⊎ (roots ≡ []);
}
