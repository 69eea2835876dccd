use Rattle.std.proofs.Common.{◌≡◌, fold}
use Rattle.ws2s_core.specs.declared.formula.Formula.TheVariants.{And}
use Rattle.ws2s_core.specs.Sizes.{node_count}
use Rattle.tree_reached.specs.Conjuncts.{lent}
use Rattle.tree_reached.proofs.replacing.conjuncts_of.Given as goal

abbrev pub invariant-loop-first : goal.invariant-loop-first
invariant-loop-first l = fold And l.first (lent l.conjuncts) ≡ l.formula

abbrev pub decreases-loop-first : goal.decreases-loop-first
decreases-loop-first l = node_count l.first
