use Rattle.tree_reached.specs.Alike.{AlikeOnTrees}
use Rattle.tree_reached.proofs.wide_types.with_types.Given as goal

abbrev pub invariant-loop-index : goal.invariant-loop-index
invariant-loop-index l = AlikeOnTrees l.l.types l.l.vars l.formula l.whole
