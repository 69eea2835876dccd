-- What is said of the store of an assignment.
use Rattle.std.specs.Prelude.{◌<◌, ◌↔◌, List}
use Rattle.gta_theory.specs.Assignments.{Position, Assignment}
use Rattle.store_core.specs.declared.ids.CellId.{CellId}
use Rattle.store_core.specs.Tables.{TypeEntry, VarEntry}
use Rattle.store_core.specs.Stores.{StoreMap, IsLive, Fits, IsFresh}
use Rattle.routing_walks.specs.WellFormed.{IsBackbone}
use Rattle.tree_encode.specs.Positions.{IsPlaced}
use Rattle.tree_store.specs.Encoding.{IsAssignmentOf}
use Rattle.tree_store.specs.Premises.{SetsHoldLive}
use Rattle.tree_store.specs.Preorder.{ComesBefore}

-- the live cells are those with the numbers from 1 up to the next number, which isn't one of them
abbrev pub AreNumberedFromOne : StoreMap → Type 0
AreNumberedFromOne s = (c : CellId) → IsLive s c ↔ ((0 < c.0) × (c.0 < s.next))

-- of two cells the one whose position comes first in preorder has the lower number
abbrev pub AreInPreorder : List TypeEntry → List VarEntry → StoreMap → Type 0
AreInPreorder types vars s = (c d : CellId) (p q : Position) → IsPlaced types vars s c p → IsPlaced types vars s d q →
    (c.0 < d.0) ↔ ComesBefore p q

-- the store fits its tables, is fresh and a backbone with live logic sets, has the assignment, and is numbered in preorder
pub record IsStoreOf (types : List TypeEntry) (vars : List VarEntry) (a : Assignment) (s : StoreMap) : Type 0 where
  pub fits : Fits types vars s
  pub fresh : IsFresh s
  pub backbone : IsBackbone types vars s
  pub sets : SetsHoldLive vars s
  pub assignment : IsAssignmentOf types vars s a
  pub numbers : AreNumberedFromOne s
  pub order : AreInPreorder types vars s

-- the assignment is that of a backbone which fits its tables and whose logic sets hold live cells of their types
pub record IsOfBackbone (types : List TypeEntry) (vars : List VarEntry) (a : Assignment) : Type 0 where
  pub store : StoreMap
  pub fits : Fits types vars store
  pub backbone : IsBackbone types vars store
  pub sets : SetsHoldLive vars store
  pub assignment : IsAssignmentOf types vars store a
