use Rattle.gta_minimise.proofs.RowsLemmas.{SharesBelow}
use Rattle.gta_minimise.proofs.rows.share_rows.Given as goal

abbrev pub invariant-loop-state : goal.invariant-loop-state
invariant-loop-state l = SharesBelow l.kinds l.representatives l.numbers l.states l.links.items l.state-index
