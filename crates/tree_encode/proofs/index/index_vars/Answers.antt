use Rattle.std.proofs.Common.{◌≡◌, ◌+◌, ◌<◌, ℕ, suc, List, length, sym, ◌∙◌, subst, arith}
use Rattle.tree_encode.specs.Counting.{is_data_var}
use Rattle.tree_encode.specs.Layouts.{slots_before, IsTabled}
use Rattle.tree_encode.proofs.IndexLemmas.{counted-yes, counted-no, IsTabled-push}
use Rattle.tree_encode.proofs.index.index_vars.Goals as goal
use Rattle.tree_encode.proofs.index.index_vars.Goals.{then-is_data, else-is_data}

pub loop-index-preserved : goal.loop-index-preserved
loop-index-preserved c =
    let vars = c.args.vars.now in
    let i = c.loop-index.index in
    let inside : i < length vars = omega (arith, c.vars-index-end.ensures.value) in
    let next : i + 1 ≡ suc i = omega arith in
    let tabled : IsTabled (slots_before vars) (i + 1) c.push.new.self.items =
    subst (λ (xs : List ℕ). IsTabled (slots_before vars) (i + 1) xs) (sym c.in_ok-push.ensures.items)
    (IsTabled-push (slots_before vars) i (i + 1) c.loop-index.slots.items c.loop-index.count c.loop-index.invariant.tabled c.loop-index.invariant.count next) in
    elim c.if-is_data.branch [
      | then-is_data w ↦ record {
        count = counted-yes is_data_var vars i c.loop-index.count c.if-is_data.count inside c.loop-index.invariant.count
            (sym c.is_data.ensures ∙ w.if-is_data.true) w.count-is;
        within = omega (arith, w.count-is);
        tabled = tabled;
      }
      | else-is_data w ↦ record {
        count = counted-no is_data_var vars i c.loop-index.count c.if-is_data.count inside c.loop-index.invariant.count
            (sym c.is_data.ensures ∙ w.if-is_data.false) w.count-is;
        within = omega (arith, w.count-is);
        tabled = tabled;
      }
    ]
