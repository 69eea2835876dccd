use Rattle.std.proofs.Common.{◌≡◌, take, flat_map}
use Rattle.tree_encode.specs.Spaces.{var_targets}
use Rattle.tree_encode.proofs.targets.var_types.Given as goal

abbrev pub invariant-loop-index : goal.invariant-loop-index
invariant-loop-index l = l.targets.items ≡ flat_map (λ v. var_targets v.kind) (take l.index l.vars)
