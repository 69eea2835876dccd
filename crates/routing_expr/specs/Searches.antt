-- What a search is asked for, and the index that it uses.
use Rattle.std.specs.Prelude.{ℕ, List, Option, Some, None}
use Rattle.store_core.specs.declared.ids.TypeId.{TypeId}
use Rattle.store_core.specs.declared.ids.CellId.{CellId}
use Rattle.store_core.specs.Tables.{TypeEntry}
use Rattle.store_core.specs.Stores.{StoreMap}
use Rattle.routing_walks.specs.Walks.{Fields, DataAlone, DataAndPointers, Leads, LeadsByName, IsOfType}
use Rattle.routing_walks.specs.Gathering.{HasAll}
use Rattle.routing_expr.specs.declared.followed.Followed.{Followed}
use Rattle.routing_expr.specs.declared.followed.Followed.TheVariants as followed
use Rattle.routing_expr.specs.declared.links.Link.{Link}
use Rattle.routing_expr.specs.declared.search.Search.{Search}

-- the fields that are followed
abbrev pub fields_in : Followed → Fields
fields_in followed.Data = DataAlone
fields_in followed.DataAndPointers = DataAndPointers

-- the field of the parent is followed and leads to the child
abbrev pub IsLink : List TypeEntry → StoreMap → Fields → Link → Type 0
IsLink types s fields link = Leads types s fields link.field link.parent link.child

-- the links are those of the store
abbrev pub IsIndexed : Search → Type 0
IsIndexed search = HasAll search.links.links.items (IsLink search.types.now search.store.now (fields_in search.followed))

-- what walks are looked for in: the store, and the fields that are followed
pub record Ground : Type 0 where
  pub types : List TypeEntry
  pub store : StoreMap
  pub fields : Fields

abbrev pub ground_of : Search → Ground
ground_of search = record { types = search.types.now; store = search.store.now; fields = fields_in search.followed }

-- the cell is of the type, where there is one
abbrev pub IsWanted : StoreMap → Option TypeId → CellId → Type 0
IsWanted s None c = Unit {0}
IsWanted s (Some target) c = IsOfType s target c

-- some followed field of this name leads from a to b
abbrev pub LeadsIn : Search → List ℕ → CellId → CellId → Type 0
LeadsIn search name a b = LeadsByName search.types.now search.store.now (fields_in search.followed) name a b
