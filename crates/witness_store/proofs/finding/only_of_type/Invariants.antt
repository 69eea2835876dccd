use Rattle.witness_store.proofs.FindingLemmas.{AmongFirst, OneAtMost}
use Rattle.witness_store.proofs.finding.only_of_type.Given as goal

-- the cells of the type so far
abbrev pub invariant-loop-cell : goal.invariant-loop-cell
invariant-loop-cell l = OneAtMost (AmongFirst l.store l.target l.cells l.cell-index) l.only
