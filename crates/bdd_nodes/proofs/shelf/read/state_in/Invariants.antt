use Rattle.std.proofs.Common.{◌≡◌}
use Rattle.bdd_nodes.specs.Nodes.{state_named, node_of, rank, IsNamedIn}
use Rattle.bdd_nodes.specs.Shelf.{label_of}
use Rattle.bdd_nodes.proofs.shelf.read.state_in.Given as goal

abbrev pub invariant-loop-state : goal.invariant-loop-state
invariant-loop-state l =
    IsNamedIn l.nodes (node_of l.at)
    × (state_named l.nodes (node_of l.at) (label_of l.label) ≡ state_named l.nodes (node_of l.initial.at) (label_of l.label))

abbrev pub decreases-loop-state : goal.decreases-loop-state
decreases-loop-state l = rank (node_of l.at)
