use Rattle.std.proofs.Common.{◌++◌, ◌∙◌, ap, sym, arith}
use Rattle.tree_encode.specs.Tracks.{variants_at}
use Rattle.store_core.specs.Tables.{variant_count}
use Rattle.witness_store.proofs.VariantsLemmas.{variants-next}
use Rattle.witness_store.proofs.cells.variants_of.Goals as goal

pub loop-index-preserved : goal.loop-index-preserved
loop-index-preserved c =
    c.in_ok-push_variants.ensures
    ∙ ap (λ l. l ++ variants_at c.loop-index.index 0 (variant_count c.args.types.now (record { 0 = c.loop-index.index }))) c.loop-index.invariant
    ∙ sym (variants-next c.args.types.now c.loop-index.index (omega (arith, c.loop-index-test.true, c.types-index-end.ensures)))
