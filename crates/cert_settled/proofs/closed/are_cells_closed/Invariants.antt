use Rattle.std.proofs.Common.{take}
use Rattle.cert_settled.specs.Settling.{AreCellsClosed}
use Rattle.cert_settled.proofs.closed.are_cells_closed.Given as goal

abbrev pub invariant-loop-left : goal.invariant-loop-left
invariant-loop-left l = AreCellsClosed l.nodes l.space l.a l.track l.states (take l.left-index l.lefts) l.rights
