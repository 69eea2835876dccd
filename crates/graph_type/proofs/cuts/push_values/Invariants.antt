use Rattle.std.proofs.Common.{◌≡◌, ◌++◌, flat_map, take}
use Rattle.graph_view.specs.Cuts.{has_value}
use Rattle.graph_type.proofs.cuts.push_values.Given as goal

abbrev pub invariant-loop-value : goal.invariant-loop-value
invariant-loop-value l = l.parts.items ≡ l.initial.parts.items ++ flat_map (has_value l.fn.x) (take l.value-index l.values)
