use Rattle.gta_refine.proofs.RowsLemmas.{IdsBelow}
use Rattle.gta_refine.proofs.rows.number_rows.Given as goal

abbrev pub invariant-loop-state : goal.invariant-loop-state
invariant-loop-state l = IdsBelow l.space l.side l.numbers l.own l.beside l.ids.items l.firsts.states.items l.firsts.buckets.items
    l.firsts.chain.items l.state-index
