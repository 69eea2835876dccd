use Rattle.std.proofs.Common.{◌<◌, ap, arith}
use Rattle.store_core.specs.Tables.{variant_count}
use Rattle.tree_encode.specs.declared.index.First.{First}
use Rattle.tree_encode.proofs.IndexLemmas.{variants-room}
use Rattle.tree_encode.proofs.layout.Layout.variant_track.Goals as goal

pub overflow_add-result : goal.overflow_add-result
overflow_add-result c =
    let inside : c.args.v.index < variant_count c.self.inside.types.now c.args.v.ty = omega (arith, c.variants.ensures, c.if-v-variants.false) in
    let room = variants-room c.self.inside.types.now c.args.v.ty c.args.v.index inside in
    let before = ap (λ (f : First). f.variants) c.first_of-first.ensures in
    omega (arith, room, before, c.self.invariant.1.few)
