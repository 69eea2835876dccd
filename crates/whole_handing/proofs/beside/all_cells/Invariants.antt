use Rattle.std.proofs.Common.{◌+◌, ◌-◌, length}
use Rattle.std.specs.FinMap.{entries}
use Rattle.whole_handing.proofs.Merging.{AreMerged}
use Rattle.whole_handing.proofs.beside.all_cells.Given as goal

abbrev pub invariant-loop-next : goal.invariant-loop-next
invariant-loop-next l = AreMerged l.one l.other l.i l.j l.made.items

abbrev pub decreases-loop-next : goal.decreases-loop-next
decreases-loop-next l = (length (entries l.one.cells) - l.i) + (length (entries l.other.cells) - l.j)
