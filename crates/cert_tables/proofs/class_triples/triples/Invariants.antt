use Rattle.std.proofs.Common.{take}
use Rattle.cert_tables.specs.Pairs.{AreClassesOf}
use Rattle.cert_tables.proofs.class_triples.triples.Given as goal

-- the classes of the pairs so far
abbrev pub invariant-loop-pair : goal.invariant-loop-pair
invariant-loop-pair l = AreClassesOf l.is_right l.space l.child l.a l.b l.c (take l.pair-index l.pairs) l.set
