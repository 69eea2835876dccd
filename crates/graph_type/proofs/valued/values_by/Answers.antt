use Rattle.std.proofs.Common.{◌++◌, ◌<◌, length, ap, sym, ◌∙◌, arith}
use Rattle.graph_type.specs.Valued.{value_of, value_at}
use Rattle.graph_type.proofs.LoopLemmas.{values_by-next}
use Rattle.graph_type.proofs.valued.values_by.Goals as goal

pub loop-index-preserved : goal.loop-index-preserved
loop-index-preserved c =
    let vars = c.args.vars.now in
    let inside : c.loop-index.index < length vars = omega (arith, c.vars-index-end.ensures.value) in
    c.in_ok-push_value_at.ensures
    ∙ ap (λ xs. xs ++ value_at (value_of c.args.pointers) vars c.args.values.now c.loop-index.index) c.loop-index.invariant
    ∙ sym (values_by-next (value_of c.args.pointers) vars c.args.values.now c.loop-index.index inside)
