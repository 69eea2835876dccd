use Rattle.gta_theory.specs.Constructions.{pairs}
use Rattle.gta_core.specs.Auto.{automaton_of}
use Rattle.gta_product.specs.Building.{AreSpaces, FitAll}
use Rattle.gta_product.specs.Growing.{AreGrown, Goes, room_left}
use Rattle.gta_product.proofs.growing.grow.Given as goal

abbrev pub invariant-loop-before : goal.invariant-loop-before
invariant-loop-before l = record {
  goes : Goes l.g (pairs (automaton_of l.fn.shelf l.a) (automaton_of l.fn.shelf l.b)) l.fn.shelf l.shelf l.fn.numbers.items l.numbers.items;
  are : AreSpaces l.g (pairs (automaton_of l.fn.shelf l.a) (automaton_of l.fn.shelf l.b)) l.numbers.items;
  grown : AreGrown l.g (pairs (automaton_of l.fn.shelf l.a) (automaton_of l.fn.shelf l.b)) l.a l.b l.numbers.items l.shelf l.growths.items;
  fits : FitAll l.shelf l.joiners.items l.numbers.items;
}

abbrev pub decreases-loop-before : goal.decreases-loop-before
decreases-loop-before l = room_left l.numbers.items
