use Rattle.std.proofs.Common.{◌<◌, length, sym, ◌∙◌, arith}
use Rattle.tree_encode.specs.Counting.{is_data_var}
use Rattle.tree_encode.proofs.IndexLemmas.{counted-yes, counted-no}
use Rattle.symbolic_steps.proofs.changes.var_slots.Goals as goal
use Rattle.symbolic_steps.proofs.changes.var_slots.Goals.{then-is_data, else-is_data}

pub loop-index-preserved : goal.loop-index-preserved
loop-index-preserved c =
    let vars = c.args.vars.now in
    let i = c.loop-index.index in
    let inside : i < length vars = omega (arith, c.vars-index-end.ensures.value) in
    elim c.if-is_data.branch [
      | then-is_data w ↦ record {
        count = counted-yes is_data_var vars i c.loop-index.count c.if-is_data.count inside c.loop-index.invariant.count
            (sym c.is_data.ensures ∙ w.if-is_data.true) w.count-is;
        within = omega (arith, w.count-is);
      }
      | else-is_data w ↦ record {
        count = counted-no is_data_var vars i c.loop-index.count c.if-is_data.count inside c.loop-index.invariant.count
            (sym c.is_data.ensures ∙ w.if-is_data.false) w.count-is;
        within = omega (arith, w.count-is);
      }
    ]
