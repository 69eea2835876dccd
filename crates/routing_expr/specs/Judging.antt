-- Whether a pointer field holds what it has to.
use Rattle.std.specs.Prelude.{◌≡◌, List, [], ◌∷◌, Some, None}
use Rattle.store_core.specs.declared.ids.CellId.{CellId}
use Rattle.store_core.specs.declared.value.Value.{Value}
use Rattle.store_core.specs.declared.value.Value.TheVariants as value
use Rattle.store_core.specs.Tables.{TypeEntry}
use Rattle.store_core.specs.Stores.{StoreMap}
use Rattle.routing_walks.specs.declared.fault.Place.{Place}
use Rattle.routing_walks.specs.declared.fault.Place.TheVariants as place
use Rattle.routing_walks.specs.WellFormed.{IsRightField}

-- the value is the one cell of the list, or null where the list has none
abbrev pub IsOnly : List CellId → Value → Type 0
IsOnly cells (value.Bool truth) = ⊥
IsOnly cells (value.Cell None) = cells ≡ []
IsOnly cells (value.Cell (Some d)) = cells ≡ d ∷ []
IsOnly cells (value.Cells others) = ⊥

-- the place isn't a pointer field that is wrong
abbrev pub IsRightPlace : List TypeEntry → StoreMap → Place → Type 0
IsRightPlace types s (place.Var v) = Unit {0}
IsRightPlace types s (place.Field c f) = IsRightField types s c f
