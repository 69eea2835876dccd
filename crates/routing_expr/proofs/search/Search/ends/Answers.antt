use Rattle.std.proofs.Common.{map}
use Rattle.routing_expr.specs.Searches.{fields_in}
use Rattle.routing_expr.specs.Machines.{arc_of}
use Rattle.routing_expr.proofs.StepLemmas.{IfOk-by}
use Rattle.routing_expr.proofs.SpotLemmas.{Lists-alike, at-end}
use Rattle.routing_expr.proofs.search.Search.ends.Goals as goal

pub returns : goal.returns
returns c =
    let s = c.args.self.now.store.now in
    IfOk-by c.at_end.result c.at_end.ensures (λ list lists. Lists-alike _ _ list (λ d.
    let walks = at-end c.args.self.now.types.now s (fields_in c.args.self.now.followed) c.args.route.now
    (map arc_of c.in_ok-machine.machine.edges.items) c.args.from c.in_ok-spots.spots.keys
    c.in_ok-machine.ensures c.in_ok-spots.ensures d in
    (λ h. walks.0 h.0, λ w. (walks.1 w, tt))) lists)
