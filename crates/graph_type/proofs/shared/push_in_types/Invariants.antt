use Rattle.std.proofs.Common.{◌≡◌, ◌++◌, flat_map}
use Rattle.tree_formula.specs.WellEncoded.{named, type_id}
use Rattle.graph_view.specs.Cuts.{field_pairs}
use Rattle.graph_view.specs.Sights.{sight_of}
use Rattle.graph_type.proofs.shared.push_in_types.Given as goal

abbrev pub invariant-loop-index : goal.invariant-loop-index
invariant-loop-index l = l.parts.items ≡ l.initial.parts.items ++ flat_map (field_pairs l.l.types (sight_of l.l.vars l.view) l.fn.next l.fn.c) (named
    type_id l.index)
