use Rattle.std.proofs.Common.{take}
use Rattle.cert_tables.specs.Pairs.{AcceptAlike}
use Rattle.cert_tables.proofs.conjunctions.accept_alike.Given as goal

-- the pairs so far do
abbrev pub invariant-loop-pair : goal.invariant-loop-pair
invariant-loop-pair l = AcceptAlike l.a l.a_negated l.b l.b_negated l.c (take l.pair-index l.pairs)
