use Rattle.std.proofs.Common.{◌≡◌, flat_map}
use Rattle.tree_formula.specs.WellEncoded.{named, type_id}
use Rattle.graph_view.specs.Fields.{fields_in_where, has_kind}
use Rattle.graph_cells.specs.Selecting.{is_of}
use Rattle.graph_cells.proofs.selecting.fields_of_kind.Given as goal

abbrev pub invariant-loop-index : goal.invariant-loop-index
invariant-loop-index l = l.fields.items ≡ flat_map (fields_in_where l.types (has_kind (is_of l.fn.kinds))) (named type_id l.index)
