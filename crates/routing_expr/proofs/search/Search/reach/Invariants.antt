use Rattle.std.proofs.Common.{◌-◌, map}
use Rattle.routing_expr.specs.Searches.{fields_in}
use Rattle.routing_expr.specs.Machines.{arc_of}
use Rattle.routing_expr.proofs.SpotLemmas.{IsReaching}
use Rattle.routing_expr.proofs.search.Search.reach.Given as goal

-- the spots that were found, and how many of them were gone on from
abbrev pub invariant-loop-index : goal.invariant-loop-index
invariant-loop-index l = IsReaching l.self.types.now l.self.store.now (fields_in l.self.followed)
    (map arc_of l.machine.edges.items) l.fn.from l.index l.spots.keys

abbrev pub decreases-loop-index : goal.decreases-loop-index
decreases-loop-index l = 9223372036854775808 - l.index
