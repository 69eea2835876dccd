use Rattle.gta_reach.specs.Reached.{AreGenerated}
use Rattle.gta_reach.specs.Unset.{unset_in}
use Rattle.gta_reach.proofs.reached.reach.Given as goal

abbrev pub invariant-loop-reached : goal.invariant-loop-reached
invariant-loop-reached l = AreGenerated l.form l.reached.items

abbrev pub decreases-loop-reached : goal.decreases-loop-reached
decreases-loop-reached l = unset_in l.reached.items
