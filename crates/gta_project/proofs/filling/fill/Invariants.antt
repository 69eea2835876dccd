use Rattle.std.proofs.Common.{All, take}
use Rattle.bdd_nodes.specs.Shelf.{IsValid}
use Rattle.bdd_walk.specs.Fits.{FitsSets}
use Rattle.gta_subsets.specs.Subsets.{set_step}
use Rattle.gta_core.specs.Auto.{automaton_of}
use Rattle.gta_subsets.specs.Numbers.{numbered, AreNumbers}
use Rattle.gta_project.specs.Filling.{Joins, AreCells}
use Rattle.gta_project.proofs.filling.fill.Given as goal

abbrev pub invariant-loop-row : goal.invariant-loop-row
invariant-loop-row l = record {
  joins : Joins (set_step (automaton_of l.fn.shelf l.a) l.track) l.space l.rows l.columns
      l.fn.shelf l.shelf l.fn.numbers l.numbers;
  cells : AreCells (set_step (automaton_of l.fn.shelf l.a) l.track) l.space (take l.row-index l.rows) l.columns
      l.numbers l.shelf l.fn.roots l.roots;
  valid : All (IsValid l.shelf) l.roots;
  fits : FitsSets l.joiner l.track l.shelf (numbered l.numbers);
  numbers : AreNumbers l.numbers;
}
