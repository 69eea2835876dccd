use Rattle.std.proofs.Common.{map, sym, ap, subst}
use Rattle.routing_walks.specs.Walks.{Walk}
use Rattle.routing_expr.specs.Searches.{fields_in}
use Rattle.routing_expr.specs.Machines.{arc_of}
use Rattle.routing_expr.proofs.StepLemmas.{IfOk-by}
use Rattle.routing_expr.proofs.SpotLemmas.{Lists-alike, at-end}
use Rattle.routing_expr.proofs.search.Search.destinations.Goals as goal

pub returns : goal.returns
returns c =
    let types = c.args.self.now.types.now in
    let s = c.args.self.now.store.now in
    let alone = ap fields_in c.requires.data in
    IfOk-by c.at_end.result c.at_end.ensures (λ list lists. Lists-alike _ _ list (λ d.
    let walks = at-end types s (fields_in c.args.self.now.followed) c.args.route.now
    (map arc_of c.in_ok-machine.machine.edges.items) c.args.from c.in_ok-spots.spots.keys
    c.in_ok-machine.ensures c.in_ok-spots.ensures d in (
      λ h. record { walk = subst (λ fields. Walk types s fields c.args.route.now c.args.from d) alone (walks.0 h.0); of_target = h.1 },
      λ w. (walks.1 (subst (λ fields. Walk types s fields c.args.route.now c.args.from d) (sym alone) w.walk), w.of_target),
    )) lists)
