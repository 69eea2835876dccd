use Rattle.ws2s_core.specs.Nodes.{Extends}
use Rattle.cert_nodes.specs.Nodes.{AreNodes}
use Rattle.cert_parts.specs.Leading.{AreCells}
use Rattle.cert_parts.proofs.rows.row.Given as goal

abbrev pub invariant-loop-q : goal.invariant-loop-q
invariant-loop-q l = AreNodes l.nodes × Extends l.fn.nodes l.nodes × AreCells l.nodes l.atom l.p l.q l.row
