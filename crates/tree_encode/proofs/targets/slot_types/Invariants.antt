use Rattle.std.proofs.Common.{◌≡◌, ◌++◌, map, take, flat_map}
use Rattle.tree_encode.specs.Spaces.{var_targets}
use Rattle.tree_encode.proofs.targets.slot_types.Given as goal

abbrev pub invariant-loop-spare : goal.invariant-loop-spare
invariant-loop-spare l =
    l.targets.items ≡ flat_map (λ v. var_targets v.kind) l.vars ++ map (λ v. v.ty) (take l.spare-index l.spares)
