use Rattle.cert_nodes.specs.declared.spots.Diagrams.{Diagrams}
use Rattle.cert_tables.specs.Automata.{table_automaton}
use Rattle.cert_settled.proofs.LinesLemmas.{AreStarted}
use Rattle.cert_settled.proofs.lines.start_all.Given as goal

-- the lines so far are right
abbrev pub invariant-loop-place : goal.invariant-loop-place
invariant-loop-place l = (nodes : Diagrams) → AreStarted l.g (table_automaton nodes l.a) l.starts l.states l.place
