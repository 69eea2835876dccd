use Rattle.cert_tables.specs.Automata.{table_automaton}
use Rattle.cert_settled.proofs.LinesLemmas.{AreSettled}
use Rattle.cert_settled.proofs.lines.settle_each.Given as goal

-- the lines so far are right
abbrev pub invariant-loop-place : goal.invariant-loop-place
invariant-loop-place l = AreSettled l.g (table_automaton l.nodes l.a) l.track l.fn.states l.lines l.states l.place
