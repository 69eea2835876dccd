use Rattle.std.proofs.Common.{List, length}
use Rattle.store_core.specs.Tables.{TypeEntry, VarEntry}
use Rattle.tree_reached.specs.Alike.{AlikeOnTrees}
use Rattle.tree_reached.specs.Conjuncts.{lent}
use Rattle.tree_reached.proofs.ReplacingLemmas.{GoesOn}
use Rattle.tree_reached.proofs.replacing.replaced.Given as goal

-- what is made and what is left may stand for the formula
abbrev pub invariant-loop-conjunct : goal.invariant-loop-conjunct
invariant-loop-conjunct l = (types : List TypeEntry) (vars : List VarEntry) → AlikeOnTrees types vars l.old l.new →
    GoesOn types vars l.formula l.parts.items (lent l.conjuncts)

abbrev pub decreases-loop-conjunct : goal.decreases-loop-conjunct
decreases-loop-conjunct l = length l.conjuncts
