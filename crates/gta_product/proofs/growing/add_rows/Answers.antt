use Rattle.std.proofs.Common.{List, [], ◌∷◌, length, length-append, slice_get, sym, ◌∙◌, ap, inl, inr, arith}
use Rattle.bdd_nodes.specs.declared.node_ref.NodeRef.{NodeRef}
use Rattle.gta_product.proofs.NumbersLemmas.{get-snoc}
use Rattle.gta_product.proofs.growing.add_rows.Goals as goal

pub loop-row-init : goal.loop-row-init
loop-row-init c = record { at = sym (c.len-row.ensures ∙ c.args.cells.now.ok.0); few = c.requires; rows = λ i roots there. inl there }

pub loop-row-preserved : goal.loop-row-preserved
loop-row-preserved c =
    let cells = c.loop-row.cells.items in
    let invariant = c.loop-row.invariant in
    let added = ap (λ (rs : List (List NodeRef)). length rs) c.in_ok-push.ensures.items in
    let long = length-append cells (c.from_vec.result ∷ []) in
    record {
      at = omega (arith, invariant.at, added, long);
      few = omega (arith, invariant.at, added, long, c.loop-row-test.true);
      rows = λ i roots there. elim (get-snoc cells c.from_vec.result roots i
          (ap (λ (rs : List (List NodeRef)). slice_get rs i) (sym c.in_ok-push.ensures.items) ∙ there)) [
            | inl before ↦ invariant.rows i roots before
            | inr last ↦ inr (last.1 ∙ c.from_vec.ensures ∙ c.in_ok-roots.ensures.items)
          ];
    }
