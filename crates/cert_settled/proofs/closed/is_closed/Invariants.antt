use Rattle.std.proofs.Common.{ℕ, ◌<◌}
use Rattle.cert_tables.specs.Automata.{table_automaton}
use Rattle.cert_settled.specs.Settling.{IsClosedIn}
use Rattle.cert_settled.proofs.closed.is_closed.Given as goal

abbrev pub invariant-loop-space : goal.invariant-loop-space
invariant-loop-space l = (k : ℕ) → k < l.space → IsClosedIn l.g (table_automaton l.nodes l.a) l.track l.states k
