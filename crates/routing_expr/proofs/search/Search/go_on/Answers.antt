use Rattle.std.proofs.lemmas.Option.{slice_get-get_or}
use Rattle.routing_walks.proofs.GatheringLemmas.{Grows-start, Grows-next, Grows-alike}
use Rattle.routing_expr.specs.Searches.{fields_in}
use Rattle.routing_expr.proofs.SpotLemmas.{EdgeSpot, EdgeSpot-one, EdgeSpot-all}
use Rattle.routing_expr.proofs.search.Search.go_on.Goals as goal

pub loop-edge-init : goal.loop-edge-init
loop-edge-init c = Grows-start (EdgeSpot c.args.self.now.types.now c.args.self.now.store.now
    (fields_in c.args.self.now.followed) c.from-edge-items.result.now c.args.spot.cell) c.args.spots.now.keys

pub loop-edge-preserved : goal.loop-edge-preserved
loop-edge-preserved c =
    let types = c.args.self.now.types.now in
    let s = c.args.self.now.store.now in
    let fields = fields_in c.args.self.now.followed in
    let edges = c.from-edge-items.result.now in
    let i = c.loop-edge.edge-index in
    Grows-next (EdgeSpot types s fields edges c.args.spot.cell) i c.args.spots.now.keys c.loop-edge.spots.keys c.go_along.new.spots.keys c.loop-edge.invariant
    (Grows-alike c.loop-edge.spots.keys c.go_along.new.spots.keys _ _ c.in_ok-go_along.ensures
    (EdgeSpot-one types s fields edges c.args.spot.cell i _ (slice_get-get_or edges i _ c.loop-edge-test.true)))

pub returns : goal.returns
returns c =
    let types = c.args.self.now.types.now in
    let s = c.args.self.now.store.now in
    let fields = fields_in c.args.self.now.followed in
    Grows-alike c.args.spots.now.keys c.loop-edge.spots.keys _ _ c.loop-edge.invariant
    (EdgeSpot-all types s fields c.args.machine.now.edges.items c.from-edge-items.result.now c.args.spot c.loop-edge.edge-index
    c.loop-edge-test.false c.from-edge-items.ensures)
