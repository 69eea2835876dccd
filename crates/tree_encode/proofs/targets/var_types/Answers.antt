use Rattle.std.proofs.Common.{arith}
use Rattle.store_core.specs.Tables.{VarEntry}
use Rattle.std.specs.Option.{option_copied}
use Rattle.tree_encode.specs.Spaces.{var_targets}
use Rattle.tree_encode.proofs.IndexLemmas.{flat_map-next}
use Rattle.tree_encode.proofs.targets.var_types.Goals as goal

pub loop-index-preserved : goal.loop-index-preserved
loop-index-preserved c =
    flat_map-next (λ (v : VarEntry). v.kind) var_targets c.args.vars.now c.loop-index.index c.loop-index.targets.items
    c.push_slot.new.targets.items (option_copied c.kind.result) (omega (arith, c.vars-index-end.ensures.value)) c.loop-index.invariant
    c.kind.ensures c.in_ok-push_slot.ensures
