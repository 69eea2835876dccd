use Rattle.std.proofs.Common.{◌≡◌, sym, subst, get_or}
use Rattle.std.proofs.lemmas.Option.{slice_get-get_or}
use Rattle.routing_walks.specs.Gathering.{Grows, HasAll}
use Rattle.routing_walks.proofs.GatheringLemmas.{Grows-start, Grows-next, Grows-alike}
use Rattle.routing_expr.specs.Searches.{fields_in}
use Rattle.routing_expr.specs.Machines.{label_of, Takes}
use Rattle.routing_expr.proofs.SpotLemmas.{CellSpot, CellSpot-one, CellSpot-all, Grows-insert, same_spot-true, spot}
use Rattle.routing_expr.proofs.search.Search.go_along.Goals as goal

pub loop-cell-init : goal.loop-cell-init
loop-cell-init c = Grows-start (CellSpot c.deref-cell-items.result.now c.args.edge.now.to) c.args.spots.now.keys

pub loop-cell-preserved : goal.loop-cell-preserved
loop-cell-preserved c =
    let cells = c.deref-cell-items.result.now in
    let i = c.loop-cell.cell-index in
    let cell = get_or cells i (record { 0 = 0 }) in
    let new = spot c.args.edge.now.to cell in
    let At = CellSpot cells c.args.edge.now.to in
    Grows-next At i c.args.spots.now.keys c.loop-cell.spots.keys c.insert.new.self.keys c.loop-cell.invariant
    (Grows-alike c.loop-cell.spots.keys c.insert.new.self.keys (λ x. x ≡ new) (At i)
    (subst (λ l. Grows c.loop-cell.spots.keys l (λ x. x ≡ new)) (sym c.in_ok-insert.ensures.keys) (Grows-insert _ same_spot-true c.loop-cell.spots.keys new))
    (CellSpot-one cells c.args.edge.now.to i cell (slice_get-get_or cells i (record { 0 = 0 }) c.loop-cell-test.true)))

pub returns : goal.returns
returns c =
    let P = Takes c.args.self.now.types.now c.args.self.now.store.now (fields_in c.args.self.now.followed) (label_of c.args.edge.now.step) c.args.from in
    Grows-alike c.args.spots.now.keys c.loop-cell.spots.keys _ _ c.loop-cell.invariant
    (CellSpot-all c.deref-cell-items.result.now c.args.edge.now.to c.loop-cell.cell-index P c.loop-cell-test.false
    (subst (λ l. HasAll l P) (sym c.deref-cell-items.ensures.value) c.in_ok-cells.ensures))
