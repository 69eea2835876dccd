-- Pieces of a store: a set of its cells with what the variables hold of it.
use Rattle.std.specs.Prelude.{◌↔◌, List, map, filter, Option, Some, None, if◌then◌else◌, Contains}
use Rattle.std.specs.Option.{option_and_then}
use Rattle.store_core.specs.declared.ids.FieldId.{FieldId}
use Rattle.store_core.specs.declared.ids.CellId.{CellId}
use Rattle.store_core.specs.declared.kind.Route.{Route}
use Rattle.store_core.specs.declared.value.Value.{Value}
use Rattle.store_core.specs.declared.value.Value.TheVariants as value
use Rattle.store_core.specs.Tables.{TypeEntry}
use Rattle.store_core.specs.Stores.{StoreMap}
use Rattle.routing_walks.specs.Walks.{Fields, Walk}
use Rattle.routing_walks.specs.Destinations.{Dest, IsOnlyDestination}
use Rattle.routing_walks.specs.Regions.{has_number, store_on}

-- the cell where it is in the set, else none
abbrev pub cell_on : List CellId → CellId → Option CellId
cell_on cells c = if has_number cells c.0 then Some c else None

-- the value with null for a cell outside the set, and a logic set without its cells outside
abbrev pub value_on : List CellId → Value → Value
value_on cells (value.Bool truth) = value.Bool truth
value_on cells (value.Cell c) = value.Cell (option_and_then (cell_on cells) c)
value_on cells (value.Cells others) = value.Cells (filter (λ c. has_number cells c.0) others)

-- the piece of the store on the set: its cells of the set, and the variables' values with null for a cell outside
abbrev pub piece_on : StoreMap → List CellId → StoreMap
piece_on s cells = record (store_on s cells) { vars = map (value_on cells) s.vars }

-- walks that begin at a cell of the set, and its destinations, are the same in t as in s, and no walk leaves the set or enters it
pub record IsLikeOn (types : List TypeEntry) (fields : Fields) (cells : List CellId) (s t : StoreMap) : Type 0 where
  pub inside : (along : Route) (a b : CellId) → Walk types s fields along a b → Contains cells a ↔ Contains cells b
  pub walks : (along : Route) (a b : CellId) → Contains cells a → Walk types s fields along a b ↔ Walk types t fields along a b
  pub destinations : (c : CellId) (f : FieldId) (d : CellId) → Contains cells c → Dest types s c f d ↔ Dest types t c f d
  pub only : (c : CellId) (f : FieldId) (x : Value) → Contains cells c → IsOnlyDestination types s c f x ↔ IsOnlyDestination types t c f x
