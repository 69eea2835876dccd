use Rattle.std.proofs.Common.{◌-◌, length}
use Rattle.pale_io.proofs.ReadingSteps.{ReadsSoFar}
use Rattle.pale_io.proofs.reading.read_all.Given as goal

abbrev pub invariant-loop-bytes : goal.invariant-loop-bytes
invariant-loop-bytes g l = ReadsSoFar l.most (g.S.Source.left l.initial.source) (g.S.Source.left l.source) (g.S.Source.faults l.initial.source)
    (g.S.Source.faults l.source) l.bytes.items l.piece

abbrev pub decreases-loop-bytes : goal.decreases-loop-bytes
decreases-loop-bytes g l = l.most - length l.bytes.items
