-- Variable tables with one data variable a type, and stores that refute that a field is functional.
use Rattle.std.specs.Prelude.{◌≡◌, ◌≢◌, ◌<◌, ℕ, List, length, slice_get, None, IsSomeAnd, IfSome}
use Rattle.store_core.specs.declared.ids.FieldId.{FieldId}
use Rattle.store_core.specs.declared.ids.CellId.{CellId}
use Rattle.store_core.specs.declared.kind.VarKind.TheVariants as var
use Rattle.store_core.specs.declared.value.Value.TheVariants as value
use Rattle.store_core.specs.Tables.{TypeEntry, VarEntry, field_at}
use Rattle.store_core.specs.Stores.{StoreMap, Fits, field_value}
use Rattle.routing_walks.specs.Destinations.{Dest, IsPointer}
use Rattle.routing_walks.specs.WellFormed.{IsBackbone}

-- one data variable of each type, in the order of the types, and no other variable
pub record IsOneEach (types : List TypeEntry) (vars : List VarEntry) : Type 0 where
  pub count : length vars ≡ length types
  pub each : (i : ℕ) → i < length types → IsSomeAnd (slice_get vars i) (λ entry. entry.kind ≡ var.Data (record { 0 = i }))

-- the store is a backbone with null in every pointer field, on which a cell that has the field has two destinations for it
pub record Refutes (types : List TypeEntry) (vars : List VarEntry) (s : StoreMap) (f : FieldId) : Type 0 where
  pub fits : Fits types vars s
  pub backbone : IsBackbone types vars s
  pub nulls : (c : CellId) (g : FieldId) → IsSomeAnd (field_at types g) (λ entry. IsPointer entry.kind) →
      IfSome (field_value s c g) (λ x. x ≡ value.Cell None)
  pub cell : CellId
  pub has : IsSomeAnd (field_value s cell f) (λ x. Unit {0})
  pub one : CellId
  pub other : CellId
  pub apart : one ≢ other
  pub to_one : Dest types s cell f one
  pub to_other : Dest types s cell f other
