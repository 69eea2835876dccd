use Rattle.gta_subsets.specs.Subsets.{subsets}
use Rattle.gta_core.specs.Auto.{automaton_of}
use Rattle.gta_project.specs.Building.{FitAll, Building}
use Rattle.gta_project.specs.Growing.{HaveSeen, room_left}
use Rattle.gta_project.proofs.projecting.settle.Given as goal

abbrev pub invariant-loop-growths : goal.invariant-loop-growths
invariant-loop-growths l = record {
  building : Building l.g (subsets (automaton_of l.fn.shelf l.a) l.track l.initials) l.fn.shelf l.shelf l.numbers.items;
  fits : FitAll l.track l.shelf l.joiners.items l.numbers.items;
  seen : HaveSeen l.g (subsets (automaton_of l.fn.shelf l.a) l.track l.initials) l.a l.growths.items;
}

abbrev pub decreases-loop-growths : goal.decreases-loop-growths
decreases-loop-growths l = room_left l.numbers.items
