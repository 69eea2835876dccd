use Rattle.std.proofs.Common.{◌≡◌, take}
use Rattle.labels.specs.Labels.{Label}
use Rattle.bdd_nodes.specs.Shelf.{Contents}
use Rattle.bdd_walk.specs.Asked.{leaves_of}
use Rattle.bdd_walk.proofs.sides.states_of.Given as goal

-- the states of the leaves so far
abbrev pub invariant-loop-leaf : goal.invariant-loop-leaf
invariant-loop-leaf l = (other : Contents) (label : Label) → leaves_of other (take l.leaf-index l.leaves) label ≡ l.states
