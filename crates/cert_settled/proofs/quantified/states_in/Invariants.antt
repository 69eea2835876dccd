use Rattle.std.proofs.Common.{ℕ, map, take, Contains}
use Rattle.std.specs.Prelude.{◌↔◌}
use Rattle.cert_theory.specs.Tables.{Lists}
use Rattle.cert_settled.specs.Settling.{placed}
use Rattle.cert_settled.proofs.quantified.states_in.Given as goal

-- those so far of the space
abbrev pub invariant-loop-state : goal.invariant-loop-state
invariant-loop-state l = (q : ℕ) → Contains l.members.items q ↔ Lists (map placed (take l.state-index l.states)) l.space q
