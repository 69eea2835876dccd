use Rattle.std.proofs.Common.{◌≡◌, ◌<◌, List, [], ◌∷◌, ◌++◌, length, take, get_or, append-nil, append_assoc, sym, ◌∙◌, ap, subst}
use Rattle.std.proofs.lemmas.List.{take_more}
use Rattle.bdd_nodes.specs.declared.node_ref.NodeRef.{NodeRef}
use Rattle.gta_product.specs.Filling.{row_by_row}
use Rattle.gta_product.proofs.RowsLemmas.{row_by_row-more}
use Rattle.gta_product.proofs.pairing.add_roots.Goals as goal

pub loop-row-init : goal.loop-row-init
loop-row-init c = sym (append-nil c.args.roots.now)

pub loop-row-preserved : goal.loop-row-preserved
loop-row-preserved c =
    let cells = c.args.cells.now.items in
    let i = c.loop-row.row-index in
    let row = c.row-item.result in
    let old = c.args.roots.now in
    let lent : c.deref-row-items.result.now ≡ cells = c.deref-row-items.ensures.value in
    let within = subst (λ (rows : List (List NodeRef)). i < length rows) lent c.loop-row-test.true in
    let is = subst (λ (rows : List (List NodeRef)). row ≡ get_or rows i row) lent c.row-item.is in
    let next = ap (λ (rs : List NodeRef). take i cells ++ rs ∷ []) is ∙ sym (take_more cells i row within) in
    c.in_ok-add_row.ensures ∙ ap (λ (rs : List NodeRef). c.loop-row.roots ++ rs) c.as_slice.ensures
    ∙ ap (λ (rs : List NodeRef). rs ++ row) c.loop-row.invariant ∙ append_assoc old (row_by_row (take i cells)) row
    ∙ ap (λ (rs : List NodeRef). old ++ rs) (sym (row_by_row-more (take i cells) row) ∙ ap row_by_row next)
