use Rattle.std.proofs.Common.{◌≡◌, ◌<◌, ◌≤◌, ℕ, List, None, Some, length, slice_get}
use Rattle.bdd_nodes.specs.declared.node_ref.NodeRef.{NodeRef}
use Rattle.bdd_walk.specs.Fits.{Fits}
use Rattle.gta_theory.specs.Constructions.{pairs}
use Rattle.gta_core.specs.Auto.{automaton_of}
use Rattle.gta_product.specs.Numbers.{numbered, AreNumbers}
use Rattle.gta_product.specs.Filling.{Joins, AreRows}
use Rattle.gta_product.proofs.filling.fill.Given as goal

abbrev pub invariant-loop-index : goal.invariant-loop-index
invariant-loop-index l = record {
  joins : Joins (pairs (automaton_of l.fn.shelf l.a) (automaton_of l.fn.shelf l.b)) l.space l.rows l.columns
      l.fn.shelf l.shelf l.fn.numbers l.numbers;
  rows : AreRows (pairs (automaton_of l.fn.shelf l.a) (automaton_of l.fn.shelf l.b)) l.space l.rows l.columns (length l.rows)
      l.numbers l.shelf l.cells.items;
  full : (i : ℕ) (roots : List NodeRef) → slice_get l.cells.items i ≡ Some roots → l.from ≤ i → i < l.index → length roots ≡ length l.columns;
  fits : Fits l.joiner None l.shelf (numbered l.numbers);
  numbers : AreNumbers l.numbers;
}
