use Rattle.std.proofs.Common.{◌≡◌, ◌++◌, length, map, reverse}
use Rattle.tree_store.specs.Growing.{turned_node}
use Rattle.tree_store.proofs.grow.turned.Given as goal

abbrev pub invariant-loop-node : goal.invariant-loop-node
invariant-loop-node l =
    l.turned ++ map (turned_node l.last) (reverse l.left) ≡ map (turned_node l.last) (reverse l.initial.left)

abbrev pub decreases-loop-node : goal.decreases-loop-node
decreases-loop-node l = length l.left
