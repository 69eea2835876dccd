use Rattle.gta_core.specs.Accepting.{AreSpacesFrom}
use Rattle.gta_pinned.proofs.spaces.spaces_of.Given as goal

abbrev pub invariant-loop-k : goal.invariant-loop-k
invariant-loop-k l = AreSpacesFrom l.g l.nodes l.k l.spaces.items
