use Rattle.std.proofs.Common.{◌≡◌, flat_map}
use Rattle.tree_formula.specs.WellEncoded.{named, type_id}
use Rattle.graph_view.specs.Fields.{fields_in_where, has_kind}
use Rattle.program_judge.specs.Reports.{is_pointer}
use Rattle.program_judge.proofs.pointers.pointer_fields.Given as goal

abbrev pub invariant-loop-index : goal.invariant-loop-index
invariant-loop-index l = l.fields.items ≡ flat_map (fields_in_where l.types (has_kind is_pointer)) (named type_id l.index)
