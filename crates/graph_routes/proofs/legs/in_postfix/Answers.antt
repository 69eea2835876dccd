use Rattle.std.proofs.Common.{◌++◌, flat_map, map, reverse, sym, ap, ◌∙◌, arith}
use Rattle.graph_routes.specs.Legs.{part_of, span_of, span_parts}
use Rattle.graph_routes.proofs.LegLemmas.{map-reverse, no_length}
use Rattle.graph_routes.proofs.legs.in_postfix.Goals as goal

pub returns : goal.returns
returns c =
    ap (map part_of) c.reverse.ensures.items ∙ map-reverse part_of c.loop-leg.legs.items
    ∙ sym (ap (λ legs. flat_map span_parts (map span_of legs) ++ reverse (map part_of c.loop-leg.legs.items))
    (no_length c.loop-leg.pending.items (omega (arith, c.in_default.ensures.cases.0))))
    ∙ c.loop-leg.invariant
