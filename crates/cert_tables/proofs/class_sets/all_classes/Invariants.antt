use Rattle.std.proofs.Common.{take}
use Rattle.cert_tables.specs.Sets.{AreSetClasses}
use Rattle.cert_tables.proofs.class_sets.all_classes.Given as goal

-- the classes of the sets so far
abbrev pub invariant-loop-line : goal.invariant-loop-line
invariant-loop-line l = AreSetClasses l.is_right l.space l.child l.a l.c (take l.line-index l.sets) l.set
