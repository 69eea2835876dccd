use Rattle.gta_subsets.specs.Subsets.{subsets}
use Rattle.gta_core.specs.Auto.{automaton_of}
use Rattle.gta_project.specs.Building.{AreSpaces, FitAll}
use Rattle.gta_project.specs.Growing.{HaveSeen, Goes, room_left}
use Rattle.gta_project.proofs.growing.grow.Given as goal

abbrev pub invariant-loop-before : goal.invariant-loop-before
invariant-loop-before l = record {
  goes : Goes l.g (subsets (automaton_of l.fn.shelf l.a) l.track l.initials) l.fn.shelf l.shelf l.fn.numbers.items l.numbers.items;
  are : AreSpaces l.g (subsets (automaton_of l.fn.shelf l.a) l.track l.initials) l.numbers.items;
  seen : HaveSeen l.g (subsets (automaton_of l.fn.shelf l.a) l.track l.initials) l.a l.growths.items;
  fits : FitAll l.track l.shelf l.joiners.items l.numbers.items;
}

abbrev pub decreases-loop-before : goal.decreases-loop-before
decreases-loop-before l = room_left l.numbers.items
