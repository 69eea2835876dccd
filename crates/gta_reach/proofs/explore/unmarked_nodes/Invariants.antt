use Rattle.gta_reach.specs.Exploring.{AreClear}
use Rattle.gta_reach.proofs.explore.unmarked_nodes.Given as goal

abbrev pub invariant-loop-space : goal.invariant-loop-space
invariant-loop-space l = AreClear l.nodes.items
