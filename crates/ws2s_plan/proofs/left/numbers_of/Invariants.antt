use Rattle.std.proofs.Common.{◌≡◌, ◌==◌, ℕ, nat_eq, take}
use Rattle.std.specs.List.{list_any}
use Rattle.std.specs.HashSet.{contains}
use Rattle.ws2s_plan.proofs.left.numbers_of.Given as goal

abbrev pub invariant-loop-one : goal.invariant-loop-one
invariant-loop-one l = (t : ℕ) → contains nat_eq l.numbers t ≡ list_any (λ one. one.track.0 == t) (take l.one-index l.eliminations)
