use Rattle.std.proofs.Common.{◌≡◌, ◌++◌, filter, false}
use Rattle.std.specs.Option.{option_map_or}
use Rattle.store_core.specs.Tables.{field_at}
use Rattle.tree_formula.specs.WellEncoded.{named, field_in}
use Rattle.graph_view.specs.Fields.{has_kind}
use Rattle.graph_cells.specs.Selecting.{is_of}
use Rattle.graph_cells.proofs.selecting.push_of_kind.Given as goal

abbrev pub invariant-loop-index : goal.invariant-loop-index
invariant-loop-index l = l.fields.items ≡ l.initial.fields.items ++ filter (λ f. option_map_or (has_kind (is_of l.fn.kinds)) (field_at l.types f)
    false) (named (field_in l.fn.ty) l.index)
