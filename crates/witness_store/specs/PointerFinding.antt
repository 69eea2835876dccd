-- What pointer fields have to hold, as a list.
use Rattle.std.specs.Prelude.{List, IsSome}
use Rattle.store_core.specs.Tables.{TypeEntry}
use Rattle.store_core.specs.Stores.{StoreMap, field_value}
use Rattle.routing_walks.specs.Destinations.{Dest}
use Rattle.witness_store.specs.declared.finding.Pointing.{Pointing}
use Rattle.witness_store.specs.Only.{IsOnlyCell}
use Rattle.witness_store.specs.Pointers.{IsPointerField}

-- a live cell has the field, which is a pointer field, and this is what it has to hold
pub record IsPointing (types : List TypeEntry) (s : StoreMap) (x : Pointing) : Type 0 where
  pub kind : IsPointerField types x.field
  pub has : IsSome (field_value s x.cell x.field)
  pub to : IsOnlyCell (Dest types s x.cell x.field) x.to
