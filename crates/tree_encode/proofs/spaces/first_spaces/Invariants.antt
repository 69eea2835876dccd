use Rattle.std.proofs.Common.{◌≡◌, ◌+◌, map, take}
use Rattle.store_core.specs.declared.ids.TypeId.{TypeId}
use Rattle.tree_encode.specs.Spaces.{spaces_in}
use Rattle.tree_encode.proofs.spaces.first_spaces.Given as goal

abbrev pub invariant-loop-target : goal.invariant-loop-target
invariant-loop-target l =
    l.spaces.items ≡ map (λ (ty : TypeId). l.start + spaces_in (take ty.0 l.types)) (take l.target-index l.targets)
