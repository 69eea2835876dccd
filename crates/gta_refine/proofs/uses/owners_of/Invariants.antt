use Rattle.gta_refine.proofs.UsesLemmas.{OwnersBelow}
use Rattle.gta_refine.proofs.uses.owners_of.Given as goal

abbrev pub invariant-loop-state : goal.invariant-loop-state
invariant-loop-state l = OwnersBelow l.space l.side l.own l.beside l.owners.items l.state-index
