use Rattle.std.proofs.Common.{ℕ, ◌<◌}
use Rattle.cert_settled.proofs.QuantifiedLemmas.{IsRight}
use Rattle.cert_settled.proofs.quantified.lead_to_quantified.Given as goal

-- the spaces so far are all right
abbrev pub invariant-loop-space : goal.invariant-loop-space
invariant-loop-space l = (k : ℕ) → k < l.space → IsRight l.g l.nodes l.a l.dropped l.settled l.sets l.c k
