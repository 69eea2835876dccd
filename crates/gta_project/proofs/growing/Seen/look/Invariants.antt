use Rattle.std.specs.Prelude.{ℕ, List, Contains, ◌⊎◌}
use Rattle.gta_project.specs.Growing.{IsKeyed}
use Rattle.gta_project.proofs.growing.Seen.look.Given as goal

abbrev pub invariant-loop-k : goal.invariant-loop-k
invariant-loop-k l = record {
  only : (x : List ℕ) → Contains l.self.ones x → Contains l.fn.self.ones x ⊎ Contains l.sets x;
  keyed : IsKeyed l.states l.fn.self → IsKeyed l.states l.self;
}
