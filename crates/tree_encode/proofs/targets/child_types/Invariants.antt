use Rattle.std.proofs.Common.{◌≡◌, take, flat_map}
use Rattle.store_core.specs.Tables.{fields_of}
use Rattle.tree_encode.specs.Spaces.{field_targets}
use Rattle.tree_encode.proofs.targets.child_types.Given as goal

abbrev pub invariant-loop-index : goal.invariant-loop-index
invariant-loop-index l = l.targets.items ≡ flat_map (λ f. field_targets f.kind) (take l.index (fields_of l.types l.ty))
