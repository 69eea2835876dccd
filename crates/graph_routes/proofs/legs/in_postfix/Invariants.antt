use Rattle.std.proofs.Common.{◌≡◌, ◌++◌, map, reverse, flat_map, sum_by}
use Rattle.graph_routes.specs.Legs.{part_of, parts_of, span_of, span_parts, span_count}
use Rattle.graph_routes.proofs.legs.in_postfix.Given as goal

abbrev pub invariant-loop-leg : goal.invariant-loop-leg
invariant-loop-leg l = flat_map span_parts (map span_of l.pending.items) ++ reverse (map part_of l.legs.items) ≡ parts_of l.route l.fn.next l.fn.from l.fn.to

abbrev pub decreases-loop-leg : goal.decreases-loop-leg
decreases-loop-leg l = sum_by span_count (map span_of l.pending.items)
