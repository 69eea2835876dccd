use Rattle.ws2s_core.specs.Sizes.{node_count}
use Rattle.tree_reached.proofs.wide_types.first_bound.Given as goal

abbrev pub decreases-loop-first : goal.decreases-loop-first
decreases-loop-first l = node_count l.first
