-- What the laws on pointer fields ask beside: the first store is well-formed, and the types are a table.
use Rattle.std.specs.Prelude.{ℕ}
use Rattle.gta_theory.specs.Assignments.{Assignment}
use Rattle.store_core.specs.Tables.{IsTypeTable}
use Rattle.store_core.specs.Stores.{StoreMap}
use Rattle.routing_walks.specs.WellFormed.{IsWellFormed}
use Rattle.tree_encode.specs.Layouts.{LaidOut}
use Rattle.graph_view.specs.declared.view.View.{View}
use Rattle.graph_view.specs.After.{Standing}
use Rattle.graph_meaning.specs.Live.Showing.{Shows}

-- the view shows t of a store that events lead to from a well-formed one
pub record ShowsWell (l : LaidOut) (view : View) (a : Assignment) (first s t : StoreMap) (at : Standing) (count : ℕ) : Type 0 where
  pub table : IsTypeTable l.types
  pub well : IsWellFormed l.types l.vars first
  pub shows : Shows l view a first s t at count
