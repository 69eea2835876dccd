-- Where a pointer field has two destinations. (Klarlund and Schwartzbach 1993: a field is functional where its routing
-- expression leads to one cell at most.)
use Rattle.std.specs.Prelude.{◌≢◌, ◌≤◌, ℕ, List, length, IsSome}
use Rattle.std.specs.FinMap.{keys}
use Rattle.gta_theory.specs.Assignments.{Assignment, Covers}
use Rattle.gta_theory.specs.Weights.{weight}
use Rattle.ws2s_core.specs.Satisfaction.{WSat}
use Rattle.store_core.specs.declared.ids.FieldId.{FieldId}
use Rattle.store_core.specs.declared.ids.CellId.{CellId}
use Rattle.store_core.specs.Tables.{TypeEntry, VarEntry}
use Rattle.store_core.specs.Stores.{StoreMap, Fits, field_value}
use Rattle.routing_walks.specs.Destinations.{Dest}
use Rattle.routing_walks.specs.WellFormed.{IsBackbone}
use Rattle.tree_store.specs.Encoding.{IsAssignmentOf}
use Rattle.tree_store.specs.Weighing.{AreVariantTracks}
use Rattle.tree_store.specs.Premises.{SetsHoldLive}
use Rattle.graph_view.specs.Cuts.{field_formula}

-- the cell has the field, and two destinations for it
pub record Forks (types : List TypeEntry) (s : StoreMap) (f : FieldId) (c : CellId) : Type 0 where
  pub has : IsSome (field_value s c f)
  pub one : CellId
  pub other : CellId
  pub apart : one ≢ other
  pub to_one : Dest types s c f one
  pub to_other : Dest types s c f other

-- some cell has two destinations for the field
abbrev pub HasFork : List TypeEntry → StoreMap → FieldId → Type 0
HasFork types s f = (c : CellId) × Forks types s f c

-- the assignment is that of a backbone which fits its tables and whose logic sets hold live cells of their types, and some cell
-- of it has two destinations for the field
pub record IsOfFork (types : List TypeEntry) (vars : List VarEntry) (f : FieldId) (a : Assignment) : Type 0 where
  pub store : StoreMap
  pub fits : Fits types vars store
  pub backbone : IsBackbone types vars store
  pub sets : SetsHoldLive vars store
  pub assignment : IsAssignmentOf types vars store a
  pub fork : HasFork types store f

-- finite sets satisfy the formula of the field, with no more positions on the tracks of the variants than the store has cells
pub record HasLightTree (types : List TypeEntry) (vars : List VarEntry) (f : FieldId) (s : StoreMap) : Type 0 where
  pub depth : ℕ
  pub sets : Assignment
  pub covered : Covers depth sets
  pub satisfies : WSat (field_formula types vars f) sets
  pub light : (tracks : List ℕ) → AreVariantTracks types tracks → weight tracks depth sets ≤ length (keys s.cells)
