use Rattle.std.proofs.Common.{◌≡◌}
use Rattle.bdd_nodes.specs.Collecting.{MovesBelow, marked_below}
use Rattle.bdd_nodes.proofs.collecting.move_nodes.Given as goal

abbrev pub invariant-loop-index : goal.invariant-loop-index
invariant-loop-index l =
    (l.kept ≡ marked_below l.initial.marks l.index)
    × MovesBelow l.initial.nodes l.initial.marks l.nodes l.marks l.index
