use Rattle.std.proofs.Common.{◌≡◌, [], ◌∷◌, None, length}
use Rattle.bdd_walk.specs.Fits.{Fits}
use Rattle.gta_theory.specs.Constructions.{pairs}
use Rattle.gta_core.specs.Auto.{automaton_of}
use Rattle.gta_product.specs.Numbers.{numbered, AreNumbers}
use Rattle.gta_product.specs.Filling.{Joins, IsRow}
use Rattle.gta_product.proofs.filling.fill_row.Given as goal

abbrev pub invariant-loop-k : goal.invariant-loop-k
invariant-loop-k l = record {
  at : l.k ≡ length l.roots;
  joins : Joins (pairs (automaton_of l.fn.shelf l.a) (automaton_of l.fn.shelf l.b)) l.space (l.row ∷ []) l.columns
      l.fn.shelf l.shelf l.fn.numbers l.numbers;
  row : IsRow (pairs (automaton_of l.fn.shelf l.a) (automaton_of l.fn.shelf l.b)) l.space l.row l.columns l.numbers l.shelf l.roots;
  fits : Fits l.joiner None l.shelf (numbered l.numbers);
  numbers : AreNumbers l.numbers;
}
