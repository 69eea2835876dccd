use Rattle.std.proofs.Common.{◌≡◌, ◌++◌, take}
use Rattle.bdd_nodes.specs.Shelf.{label_of}
use Rattle.bdd_walk.specs.Asked.{leaves_of}
use Rattle.gta_subsets.proofs.closing.push_states.Given as goal

abbrev pub invariant-loop-root : goal.invariant-loop-root
invariant-loop-root l = l.states ≡ l.fn.states ++ leaves_of l.shelf (take l.root-index l.roots) (label_of l.label)
