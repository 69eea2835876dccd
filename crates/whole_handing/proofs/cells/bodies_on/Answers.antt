use Rattle.std.proofs.Common.{◌≡◌, ◌∙◌, ◌++◌, ◌∷◌, [], ◌+◌, ap, sym, subst, slice_get, take, Some, List}
use Rattle.std.specs.List.{filter}
use Rattle.std.specs.FinMap.{entries}
use Rattle.std.specs.declared.vec.Vec.{Vec}
use Rattle.std.specs.declared.alloc.Global.{Global}
use Rattle.store_core.specs.declared.store.CellBody.{CellBody}
use Rattle.store_core.specs.StoreBodies.{cell_entry, cells_of, AreLive}
use Rattle.routing_expr.proofs.RegionLemmas.{cells_more, cells_same, live_more}
use Rattle.whole_handing.specs.Handed.{is_on}
use Rattle.whole_handing.proofs.cells.bodies_on.Goals as goal
use Rattle.whole_handing.proofs.cells.bodies_on.Goals.{then-is_on+in_ok-copy+in_ok-push, else-is_on}

pub loop-place-preserved : goal.loop-place-preserved
loop-place-preserved c =
    let es = entries c.args.store.now.cells in
    let test = is_on c.args.cells.now c.args.inside in
    let kept = c.loop-place.kept.items in
    let place = c.loop-place.place in
    let body = c.in-Some.body.now in
    let here : slice_get es place ≡ Some (cell_entry body) = sym c.in-Some.ensures.cell in
    elim c.if-is_on.branch [
      | then-is_on+in_ok-copy+in_ok-push w ↦
          let items : c.if-is_on.kept.items ≡ kept ++ body ∷ [] = ap (λ (v : Vec CellBody Global). v.items) w.kept-is
          ∙ w.in_ok-push.ensures.items ∙ ap (λ (b : CellBody). kept ++ b ∷ []) w.in_ok-copy.ensures in (
            subst (λ (l : List CellBody). cells_of l ≡ filter (λ e. test e.0) (take (place + 1) es)) (sym items)
                (cells_more test kept es place body here c.loop-place.invariant.0 (sym c.is_on.ensures ∙ w.if-is_on.true)),
            subst AreLive (sym items) (live_more kept body c.loop-place.invariant.1 c.in-Some.ensures.live),
          )
      | else-is_on w ↦
          let same = ap (λ (v : Vec CellBody Global). v.items) w.kept-is in (
            subst (λ (l : List CellBody). cells_of l ≡ filter (λ e. test e.0) (take (place + 1) es)) (sym same)
                (cells_same test kept es place body here c.loop-place.invariant.0 (sym c.is_on.ensures ∙ w.if-is_on.false)),
            subst AreLive (sym same) c.loop-place.invariant.1,
          )
    ]
