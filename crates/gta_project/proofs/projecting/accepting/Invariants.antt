use Rattle.std.proofs.Common.{◌≡◌, ℕ, List, map, take}
use Rattle.std.specs.List.{list_any}
use Rattle.gta_core.specs.Auto.{is_accepting}
use Rattle.gta_project.proofs.projecting.accepting.Given as goal

abbrev pub invariant-loop-number : goal.invariant-loop-number
invariant-loop-number l = l.accepting ≡ map (λ (set : List ℕ). list_any (is_accepting l.a) set) (take l.number l.sets)
