-- Where pointer fields are set to, and stores that differ in them alone. (Klarlund and Schwartzbach, POPL 1993, "graph
-- types".)
use Rattle.std.specs.Prelude.{◌≡◌, ◌↔◌, List, is_some, IsSomeAnd, IfSome}
use Rattle.store_core.specs.declared.ids.FieldId.{FieldId}
use Rattle.store_core.specs.declared.ids.VarId.{VarId}
use Rattle.store_core.specs.declared.ids.CellId.{CellId}
use Rattle.store_core.specs.declared.value.Value.{Value}
use Rattle.store_core.specs.declared.value.Value.TheVariants as value
use Rattle.store_core.specs.Tables.{TypeEntry, VarEntry, field_at}
use Rattle.store_core.specs.Stores.{StoreMap, cell_of, field_value, CellFits}
use Rattle.store_laws.specs.Changed.{variant_of}
use Rattle.routing_walks.specs.Destinations.{Dest, IsPointer}
use Rattle.routing_walks.specs.WellFormed.{IsBackbone}
use Rattle.routing_walks.specs.Paths.{StandsAt}
use Rattle.witness_store.specs.Only.{IsOnlyCell}

-- the field is a pointer field of its type
abbrev pub IsPointerField : List TypeEntry → FieldId → Type 0
IsPointerField types f = IsSomeAnd (field_at types f) (λ entry. IsPointer entry.kind)

-- the value is the only destination of c for f, or null where there is none and where there are several
abbrev pub IsDestinationIfOne : List TypeEntry → StoreMap → CellId → FieldId → Value → Type 0
IsDestinationIfOne types s c f (value.Bool truth) = ⊥
IsDestinationIfOne types s c f (value.Cell d) = IsOnlyCell (Dest types s c f) d
IsDestinationIfOne types s c f (value.Cells cells) = ⊥

-- each pointer field that a live cell has holds its only destination, or null where there is none and where there are several
abbrev pub ArePointersSet : List TypeEntry → StoreMap → Type 0
ArePointersSet types s = (c : CellId) (f : FieldId) → IsPointerField types f → IfSome (field_value s c f) (IsDestinationIfOne types s c f)

-- each live cell fits the table of types
abbrev pub DoCellsFit : List TypeEntry → StoreMap → Type 0
DoCellsFit types s = (c : CellId) → IfSome (cell_of s c) (CellFits types s)

-- the stores are the same but for what their pointer fields hold
pub record IsSameButPointers (types : List TypeEntry) (s t : StoreMap) : Type 0 where
  pub variants : (c : CellId) → variant_of t c ≡ variant_of s c
  pub fields : (c : CellId) (f : FieldId) → (IsPointerField types f → ⊥) → field_value t c f ≡ field_value s c f
  pub pointers : (c : CellId) (f : FieldId) → is_some (field_value t c f) ≡ is_some (field_value s c f)
  pub vars : t.vars ≡ s.vars
  pub next : t.next ≡ s.next

-- what doesn't look at pointer fields is the same in both
pub record AreAlike (types : List TypeEntry) (s t : StoreMap) : Type 0 where
  pub destinations : (c : CellId) (f : FieldId) (d : CellId) → Dest types s c f d ↔ Dest types t c f d
  pub backbones : (vars : List VarEntry) → IsBackbone types vars s ↔ IsBackbone types vars t
  pub paths : (vars : List VarEntry) (v : VarId) (fields : List FieldId) (c : CellId) → StandsAt types vars s v fields c ↔ StandsAt types vars t v fields c
