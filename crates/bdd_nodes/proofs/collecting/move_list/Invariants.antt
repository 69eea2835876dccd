use Rattle.std.proofs.Common.{◌≡◌, ◌++◌, take, drop}
use Rattle.std.specs.Prelude.{map}
use Rattle.bdd_nodes.specs.Collecting.{linked}
use Rattle.bdd_nodes.proofs.collecting.move_list.Given as goal

abbrev pub invariant-loop-index : goal.invariant-loop-index
invariant-loop-index l = l.roots ≡ map (linked l.links) (take l.index l.initial.roots) ++ drop l.index l.initial.roots
