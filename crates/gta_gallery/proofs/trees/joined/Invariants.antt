use Rattle.std.proofs.Common.{◌≡◌, ◌++◌, length, map, take}
use Rattle.ws2s_theory.specs.Trees.{moved_on}
use Rattle.gta_gallery.proofs.trees.joined.Given as goal

abbrev pub invariant-loop-node : goal.invariant-loop-node
invariant-loop-node l = l.nodes ≡ l.fn.left ++ map (moved_on (length l.fn.left)) (take l.node-index l.right)
