-- When two assignments have the same positions on a layout's tracks, and when one is that of a well-formed store.
use Rattle.std.specs.Prelude.{◌≡◌, ◌<◌, ℕ, List}
use Rattle.gta_theory.specs.Assignments.{Position, Assignment}
use Rattle.store_core.specs.declared.ids.FieldId.{FieldId}
use Rattle.store_core.specs.declared.ids.CellId.{CellId}
use Rattle.store_core.specs.Tables.{TypeEntry, VarEntry}
use Rattle.store_core.specs.Stores.{StoreMap}
use Rattle.routing_walks.specs.WellFormed.{IsWellFormed, IsFunctional}
use Rattle.tree_encode.specs.Positions.{IsPlaced}
use Rattle.tree_store.specs.Encoding.{IsAssignmentOf}
use Rattle.witness_store.specs.Pointers.{IsPointerField}

-- on the first so many tracks the assignments have the same positions
abbrev pub AreSameBelow : ℕ → Assignment → Assignment → Type 0
AreSameBelow n a b = (t : ℕ) (p : Position) → t < n → a t p ≡ b t p

-- on every backbone a cell has at most one destination for each pointer field
abbrev pub AreFunctional : List TypeEntry → Type 0
AreFunctional types = (f : FieldId) → IsPointerField types f → IsFunctional types f

-- the assignment is that of a well-formed store
pub record IsOfWellFormed (types : List TypeEntry) (vars : List VarEntry) (a : Assignment) : Type 0 where
  pub store : StoreMap
  pub well_formed : IsWellFormed types vars store
  pub assignment : IsAssignmentOf types vars store a

-- the cells, one of each store, stand at one position
pub record StandAlike (types : List TypeEntry) (vars : List VarEntry) (s t : StoreMap) (c d : CellId) : Type 0 where
  pub position : Position
  pub one : IsPlaced types vars s c position
  pub other : IsPlaced types vars t d position
