use Rattle.std.proofs.Common.{take}
use Rattle.cert_tables.specs.Accepting.{AcceptBySome}
use Rattle.cert_tables.proofs.accepting.accept_by_some.Given as goal

-- the sets so far do
abbrev pub invariant-loop-line : goal.invariant-loop-line
invariant-loop-line l = AcceptBySome l.a l.a_negated l.c (take l.line-index l.sets)
