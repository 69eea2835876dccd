use Rattle.std.proofs.Common.{arith}
use Rattle.store_core.specs.Tables.{FieldEntry, fields_of}
use Rattle.std.specs.Option.{option_copied}
use Rattle.tree_encode.specs.Spaces.{field_targets}
use Rattle.tree_encode.proofs.IndexLemmas.{flat_map-next}
use Rattle.tree_encode.proofs.targets.child_types.Goals as goal

pub loop-index-preserved : goal.loop-index-preserved
loop-index-preserved c =
    flat_map-next (λ (f : FieldEntry). f.kind) field_targets (fields_of c.args.types.now c.args.ty) c.loop-index.index c.loop-index.targets.items
    c.push_child.new.targets.items (option_copied c.kind.result) (omega (arith, c.fields-index-end.ensures)) c.loop-index.invariant
    c.kind.ensures c.in_ok-push_child.ensures
