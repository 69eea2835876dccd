use Rattle.std.proofs.Common.{take}
use Rattle.cert_tables.specs.Pairs.{spots_of}
use Rattle.cert_tables.specs.Starts.{AreLedBy}
use Rattle.cert_tables.proofs.pairs.starts.Given as goal

-- where the triples so far lead to with all of the right side
abbrev pub invariant-loop-left : goal.invariant-loop-left
invariant-loop-left l = AreLedBy (spots_of l.space l.a l.b l.c) (take l.left-index l.lefts) l.rights l.starts
