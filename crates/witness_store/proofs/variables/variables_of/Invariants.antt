use Rattle.std.proofs.Common.{◌≡◌, List, take}
use Rattle.ws2s_core.specs.LabelTrees.{assignment_of}
use Rattle.tree_store.specs.Decoded.{Standing, vars_in}
use Rattle.witness_store.specs.Finding.{AreFoundAs}
use Rattle.witness_store.proofs.variables.variables_of.Given as goal

-- the values of the variables so far
abbrev pub invariant-loop-index : goal.invariant-loop-index
invariant-loop-index l = (standing : List Standing) → AreFoundAs l.nodes l.cells standing →
    l.values ≡ vars_in l.l.types l.l.vars (assignment_of l.nodes) standing 0 (take l.index l.l.vars)
