-- What stands on what is read: the cell that a field names, and where it stands.
use Rattle.std.specs.Prelude.{◌≡◌, Some}
use Rattle.gta_theory.specs.Assignments.{Position}
use Rattle.store_core.specs.declared.ids.CellId.{CellId}
use Rattle.store_core.specs.declared.value.Value.{Value}
use Rattle.store_core.specs.declared.value.Value.TheVariants as value
use Rattle.store_core.specs.declared.ids.FieldId.{FieldId}
use Rattle.store_core.specs.Stores.{StoreMap, field_value}
use Rattle.graph_view.specs.After.{Standing, IsAt}

-- the value is a cell, live or dead, that stands at the position
abbrev pub NamesAt : Standing → Value → Position → Type 0
NamesAt at x q = (d : CellId) × IsAt at d q × (x ≡ value.Cell (Some d))

-- the cell's field names a cell, live or dead, that stands at the position
abbrev pub FieldNamesAt : StoreMap → Standing → CellId → FieldId → Position → Type 0
FieldNamesAt s at c f q = (d : CellId) × IsAt at d q × (field_value s c f ≡ Some (value.Cell (Some d)))
