use Rattle.std.proofs.Common.{All, Contains}
use Rattle.ws2s_plan.proofs.planning.unweighed.Given as goal

abbrev pub invariant-loop-track : goal.invariant-loop-track
invariant-loop-track l = All (λ t. Contains l.weigh t → ⊥) l.found.items
