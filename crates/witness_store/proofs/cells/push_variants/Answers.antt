use Rattle.std.proofs.Common.{◌∙◌, sym, append-nil}
use Rattle.witness_store.proofs.VariantsLemmas.{more-variants}
use Rattle.witness_store.proofs.cells.push_variants.Goals as goal

pub loop-index-init : goal.loop-index-init
loop-index-init c = sym (append-nil c.args.variants.now.items)

pub loop-index-preserved : goal.loop-index-preserved
loop-index-preserved c = c.in_ok-push.ensures.items ∙ more-variants c.args.ty.0 c.loop-index.index c.args.variants.now.items c.loop-index.variants.items
    c.loop-index.invariant
