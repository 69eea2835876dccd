-- Which kinds of fields are looked for.
use Rattle.std.specs.Prelude.{Bool}
use Rattle.store_core.specs.declared.kind.FieldKind.{FieldKind}
use Rattle.graph_view.specs.Fields.{is_bool, is_data, is_reference}
use Rattle.graph_cells.specs.declared.selecting.Kinds.{Kinds}
use Rattle.graph_cells.specs.declared.selecting.Kinds.TheVariants.{Bools, Data, References}

abbrev pub is_of : Kinds → FieldKind → Bool
is_of Bools = is_bool
is_of Data = is_data
is_of References = is_reference
