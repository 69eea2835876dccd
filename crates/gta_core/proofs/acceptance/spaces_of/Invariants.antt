use Rattle.gta_core.specs.Auto.{guide_of}
use Rattle.gta_core.specs.Accepting.{AreSpacesFrom}
use Rattle.gta_core.proofs.acceptance.spaces_of.Given as goal

abbrev pub invariant-loop-k : goal.invariant-loop-k
invariant-loop-k l = AreSpacesFrom (guide_of l.a) l.nodes l.k l.spaces.items
