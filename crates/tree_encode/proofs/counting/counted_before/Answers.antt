use Rattle.std.proofs.Common.{sym, ◌∙◌, arith}
use Rattle.store_core.specs.Tables.{fields_of}
use Rattle.tree_encode.specs.Counting.{is_counted}
use Rattle.tree_encode.proofs.IndexLemmas.{counted-yes, counted-no}
use Rattle.tree_encode.proofs.counting.counted_before.Goals as goal
use Rattle.tree_encode.proofs.counting.counted_before.Goals.{then-is_counted, else-is_counted}

pub loop-index-preserved : goal.loop-index-preserved
loop-index-preserved c =
    let p = is_counted c.args.what in
    let fields = fields_of c.args.types.now c.args.ty in
    let i = c.loop-index.index in
    elim c.if-is_counted.branch [
      | then-is_counted w ↦ record {
        counted = counted-yes p fields i c.loop-index.count c.if-is_counted.count (omega arith) c.loop-index.invariant.counted
            (sym c.is_counted.ensures ∙ w.if-is_counted.true) w.count-is;
        within = omega (arith, w.count-is);
      }
      | else-is_counted w ↦ record {
        counted = counted-no p fields i c.loop-index.count c.if-is_counted.count (omega arith) c.loop-index.invariant.counted
            (sym c.is_counted.ensures ∙ w.if-is_counted.false) w.count-is;
        within = omega (arith, w.count-is);
      }
    ]
