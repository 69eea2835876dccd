use Rattle.std.proofs.Common.{ℕ, map, take, Contains}
use Rattle.std.specs.Prelude.{◌↔◌}
use Rattle.cert_settled.specs.Settling.{placed, HasClass}
use Rattle.cert_settled.proofs.closed.classes_of.Given as goal

abbrev pub invariant-loop-state : goal.invariant-loop-state
invariant-loop-state l = (k : ℕ) → Contains l.classes.keys k ↔ HasClass l.is_right l.space l.child l.a (map placed (take l.state-index l.states)) k
