use Rattle.std.proofs.Common.{length}
use Rattle.gta_core.specs.Auto.{automaton_of, states_of}
use Rattle.gta_subsets.specs.Closing.{AreRising, absent_in}
use Rattle.gta_subsets.proofs.closing.initial_sets.Given as goal

abbrev pub invariant-loop-sets : goal.invariant-loop-sets
invariant-loop-sets l = AreRising l.g (automaton_of l.shelf l.a) l.track l.sets

abbrev pub decreases-loop-sets : goal.decreases-loop-sets
decreases-loop-sets l = absent_in (states_of l.a) l.sets (length l.g)
