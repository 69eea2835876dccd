use Rattle.ws2s_core.specs.Nodes.{Extends}
use Rattle.cert_nodes.specs.Nodes.{AreNodes}
use Rattle.cert_theory.specs.Sections.{atom_states}
use Rattle.cert_parts.specs.Leading.{AreFirstRows}
use Rattle.cert_parts.proofs.rows.rows.Given as goal

abbrev pub invariant-loop-p : goal.invariant-loop-p
invariant-loop-p l = AreNodes l.nodes × Extends l.fn.nodes l.nodes × AreFirstRows l.nodes l.atom (atom_states l.atom) l.p l.rows
