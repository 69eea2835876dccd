use Rattle.std.proofs.Common.{◌∙◌, ap, sym, map, arith}
use Rattle.indexmap.specs.IndexSet.{insert_key}
use Rattle.routing_expr.specs.Searches.{fields_in}
use Rattle.routing_expr.specs.Machines.{arc_of}
use Rattle.routing_expr.proofs.SpotLemmas.{IsReaching-start, IsReaching-next, IsReaching-all, spot, same_spot}
use Rattle.routing_expr.proofs.search.Search.reach.Goals as goal

pub loop-index-init : goal.loop-index-init
loop-index-init c =
    IsReaching-start c.args.self.now.types.now c.args.self.now.store.now (fields_in c.args.self.now.followed)
    (map arc_of c.args.machine.now.edges.items) c.args.from
    c.insert.new.self.keys (c.in_ok-insert.ensures.keys ∙ ap (λ keys. insert_key same_spot keys (spot 0 c.args.from)) c.new-spots.ensures.empty)

pub loop-index-preserved : goal.loop-index-preserved
loop-index-preserved c =
    IsReaching-next c.args.self.now.types.now c.args.self.now.store.now (fields_in c.args.self.now.followed)
    (map arc_of c.args.machine.now.edges.items) c.args.from
    c.loop-index.index c.loop-index.spots.keys c.go_on.new.spots.keys c.in-Some.spot.now
    (sym c.in-Some.ensures.key) c.loop-index.invariant c.in_ok-go_on.ensures

pub returns : goal.returns
returns c =
    IsReaching-all c.args.self.now.types.now c.args.self.now.store.now (fields_in c.args.self.now.followed)
    (map arc_of c.args.machine.now.edges.items) c.args.from
    c.loop-index.index c.loop-index.spots.keys
    (let le = c.loop-index-test.false in let len = c.len.ensures.len in omega arith) c.loop-index.invariant
