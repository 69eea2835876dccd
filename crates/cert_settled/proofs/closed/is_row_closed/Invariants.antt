use Rattle.std.proofs.Common.{take}
use Rattle.cert_settled.specs.Settling.{IsRowClosed}
use Rattle.cert_settled.proofs.closed.is_row_closed.Given as goal

abbrev pub invariant-loop-right : goal.invariant-loop-right
invariant-loop-right l = IsRowClosed l.nodes l.space l.a l.track l.states (take l.right-index l.rights) l.left
