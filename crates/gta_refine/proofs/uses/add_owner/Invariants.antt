use Rattle.gta_refine.proofs.UsesLemmas.{OwnerBelow}
use Rattle.gta_refine.proofs.uses.add_owner.Given as goal

abbrev pub invariant-loop-state : goal.invariant-loop-state
invariant-loop-state l = OwnerBelow l.space l.side l.own l.beside l.fn.owners.items l.owners.items l.state-index
