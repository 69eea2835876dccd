use Rattle.std.proofs.Common.{ℕ, ◌<◌}
use Rattle.cert_tables.proofs.ConjunctionsLemmas.{IsRight}
use Rattle.cert_tables.proofs.conjunctions.lead_to_conjunction.Given as goal

-- the spaces so far are all right
abbrev pub invariant-loop-space : goal.invariant-loop-space
invariant-loop-space l = (k : ℕ) → k < l.space → IsRight l.g l.nodes l.a l.b l.pairs l.c k
