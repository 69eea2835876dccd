use Rattle.gta_refine.proofs.UsesLemmas.{LikesBelow}
use Rattle.gta_refine.proofs.uses.likes_of.Given as goal

abbrev pub invariant-loop-state : goal.invariant-loop-state
invariant-loop-state l = LikesBelow l.kinds l.reached l.likes.items l.state
