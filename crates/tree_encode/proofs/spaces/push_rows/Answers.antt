use Rattle.std.proofs.Common.{◌∙◌, List, map, ap, arith}
use Rattle.store_core.specs.declared.ids.TypeId.{TypeId}
use Rattle.tree_encode.specs.Spaces.{first_space}
use Rattle.tree_encode.proofs.StepsLemmas.{rows-next}
use Rattle.tree_encode.proofs.spaces.push_rows.Goals as goal

pub loop-index-preserved : goal.loop-index-preserved
loop-index-preserved c =
    rows-next c.args.types.now c.args.start c.args.rest c.loop-index.index c.loop-index.spaces.items c.push_row.new.spaces.items
    c.deref-in-loop-index.result.now (omega (arith, c.types-index-end.ensures.value))
    (c.deref-in-loop-index.ensures.value ∙ c.in_ok-children.ensures
    ∙ ap (λ (targets : List TypeId). map (first_space c.args.types.now c.args.start) targets) (c.deref.ensures.value ∙ c.in_ok-targets.ensures))
    c.in_ok-push_row.ensures
    ∙ c.loop-index.invariant
