use Rattle.std.proofs.Common.{◌≡◌, ℕ, List, length, map, take}
use Rattle.gta_project.proofs.growing.counts.Given as goal

abbrev pub invariant-loop-numbers : goal.invariant-loop-numbers
invariant-loop-numbers l = l.counts ≡ map (λ (pairs : List (List ℕ)). length pairs) (take l.numbers-index l.spaces.items)
