-- Where a pointer field has to point. (Klarlund and Schwartzbach, POPL 1993, "graph types".)
use Rattle.std.specs.Prelude.{◌≡◌, List, Some, None, IsSomeAnd}
use Rattle.store_core.specs.declared.ids.TypeId.{TypeId}
use Rattle.store_core.specs.declared.ids.FieldId.{FieldId}
use Rattle.store_core.specs.declared.ids.CellId.{CellId}
use Rattle.store_core.specs.declared.kind.FieldKind.{FieldKind}
use Rattle.store_core.specs.declared.kind.FieldKind.TheVariants as field
use Rattle.store_core.specs.declared.kind.Route.{Route}
use Rattle.store_core.specs.declared.value.Value.{Value}
use Rattle.store_core.specs.declared.value.Value.TheVariants as value
use Rattle.store_core.specs.Tables.{TypeEntry, field_at}
use Rattle.store_core.specs.Stores.{StoreMap}
use Rattle.routing_walks.specs.Walks.{Walk, DataAlone, IsOfType}

-- a walk of the route over data fields leads from a to b, and b is of the target type
pub record EndsWalk (types : List TypeEntry) (s : StoreMap) (along : Route) (target : TypeId) (a b : CellId) : Type 0 where
  pub walk : Walk types s DataAlone along a b
  pub of_target : IsOfType s target b

-- d ends a walk from c of the kind of field, which is a pointer field
abbrev pub EndsKind : List TypeEntry → StoreMap → FieldKind → CellId → CellId → Type 0
EndsKind types s field.Bool c d = ⊥
EndsKind types s (field.Data target) c d = ⊥
EndsKind types s (field.Pointer target along) c d = EndsWalk types s along target c d

-- d is a destination of c for the pointer field f
abbrev pub Dest : List TypeEntry → StoreMap → CellId → FieldId → CellId → Type 0
Dest types s c f d = IsSomeAnd (field_at types f) (λ entry. EndsKind types s entry.kind c d)

-- the value is the only destination of c for f, or null where there is none
abbrev pub IsOnlyDestination : List TypeEntry → StoreMap → CellId → FieldId → Value → Type 0
IsOnlyDestination types s c f (value.Bool truth) = ⊥
IsOnlyDestination types s c f (value.Cell None) = (d : CellId) → Dest types s c f d → ⊥
IsOnlyDestination types s c f (value.Cell (Some d)) = Dest types s c f d × ((e : CellId) → Dest types s c f e → e ≡ d)
IsOnlyDestination types s c f (value.Cells cells) = ⊥

-- the field is a pointer field
abbrev pub IsPointer : FieldKind → Type 0
IsPointer field.Bool = ⊥
IsPointer (field.Data target) = ⊥
IsPointer (field.Pointer target along) = Unit {0}
