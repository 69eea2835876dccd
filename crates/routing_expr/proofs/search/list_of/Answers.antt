use Rattle.std.proofs.Common.{rules, sym, subst, get_or}
use Rattle.std.specs.List.Sorted.{IsNonDecreasingBy, IsPermutation}
use Rattle.std.proofs.lemmas.List.Sorted.{IsNonDecreasingBy-from_sort_by_key}
use Rattle.std.proofs.lemmas.Option.{slice_get-get_or}
use Rattle.store_core.specs.declared.ids.CellId.{CellId}
use Rattle.routing_walks.specs.Gathering.{Before}
use Rattle.routing_walks.specs.Sets.{Lists}
use Rattle.routing_expr.proofs.SpotLemmas.{FirstCell, Lists-none, Lists-next, Lists-all, first-below}
use Rattle.routing_expr.proofs.search.list_of.Goals as goal

pub push_once-requires-clause-rising : goal.push_once-requires-clause-rising
push_once-requires-clause-rising c = c.loop-cell.invariant.rising

pub push_once-requires-clause-last : goal.push_once-requires-clause-last
push_once-requires-clause-last c =
    let cells = c.deref-cell-items.result.now in
    first-below cells c.loop-cell.cell-index (get_or cells c.loop-cell.cell-index (record { 0 = 0 })) c.loop-cell.list
    (slice_get-get_or cells c.loop-cell.cell-index (record { 0 = 0 }) c.loop-cell-test.true)
    (subst (λ l. IsNonDecreasingBy (λ (x : CellId). x.0) l) (sym c.deref-cell-items.ensures.value)
    (IsNonDecreasingBy-from_sort_by_key (λ (x : CellId). x.0) _ c.in_ok-sort_by_key.ensures.sorted (λ a r q k. search rules)))
    c.loop-cell.invariant

pub loop-cell-init : goal.loop-cell-init
loop-cell-init c =
    let cells = c.deref-cell-items.result.now in
    subst (λ l. Lists (Before (FirstCell cells) 0) l) (sym c.new-list.ensures) (Lists-none cells)

pub loop-cell-preserved : goal.loop-cell-preserved
loop-cell-preserved c =
    let cells = c.deref-cell-items.result.now in
    Lists-next cells c.loop-cell.cell-index (get_or cells c.loop-cell.cell-index (record { 0 = 0 })) c.loop-cell.list c.push_once.new.list
    (slice_get-get_or cells c.loop-cell.cell-index (record { 0 = 0 }) c.loop-cell-test.true) c.loop-cell.invariant c.in_ok-push_once.ensures

pub returns : goal.returns
returns c =
    Lists-all c.args.cells.items c.deref-cell-items.result.now c.loop-cell.cell-index c.loop-cell.list
    (subst (λ l. IsPermutation c.args.cells.items l) (sym c.deref-cell-items.ensures.value) c.in_ok-sort_by_key.ensures.permutation)
    c.loop-cell-test.false c.loop-cell.invariant
