-- Stores on a set of cells. A set of cells is a list of them, as the value of a logic set is: whether a cell is in it is
-- decided by its number, and a set that is handed on stands in rising order, so that each set is one list.
use Rattle.std.specs.Prelude.{◌≡◌, ◌==◌, ◌↔◌, ℕ, Bool, List, None, Contains}
use Rattle.std.specs.List.{list_any}
use Rattle.std.specs.FinMap.{retain_keys}
use Rattle.store_core.specs.declared.ids.FieldId.{FieldId}
use Rattle.store_core.specs.declared.ids.VarId.{VarId}
use Rattle.store_core.specs.declared.ids.CellId.{CellId}
use Rattle.store_core.specs.Tables.{TypeEntry, VarEntry}
use Rattle.store_core.specs.Stores.{StoreMap, IsLive, cell_of}
use Rattle.routing_walks.specs.Walks.{Fields, Leads, IsParent}
use Rattle.routing_walks.specs.WellFormed.{IsInTree}
use Rattle.routing_walks.specs.Sets.{Lists}

-- ---- the store on a set of cells

-- one of the cells has this number
abbrev pub has_number : List CellId → ℕ → Bool
has_number cells number = list_any (λ c. c.0 == number) cells

-- the store on a set of cells: its live cells of the set are live, with their values, and no others are; the variables and
-- the next number are the same. So a value that names a cell outside the set names a dead cell, and counts as null
abbrev pub store_on : StoreMap → List CellId → StoreMap
store_on s cells = record s { cells = retain_keys s.cells (has_number cells) }

-- ---- sets of cells

-- the cell is in the tree of one of the listed data variables
pub record IsReachedFrom (types : List TypeEntry) (vars : List VarEntry) (s : StoreMap) (roots : List VarId) (c : CellId) : Type 0 where
  pub root : VarId
  pub listed : Contains roots root
  pub in_tree : IsInTree types vars s root c

-- the set is the part of these data variables: it has just the cells reached from them, by number
abbrev pub IsPart : List TypeEntry → List VarEntry → StoreMap → List VarId → List CellId → Type 0
IsPart types vars s roots cells = Lists (IsReachedFrom types vars s roots) cells

-- the cell is live and not in the set
abbrev pub IsOutside : StoreMap → List CellId → CellId → Type 0
IsOutside s cells c = IsLive s c × (Contains cells c → ⊥)

-- the second set is the rest of the first: it has just the live cells outside it, by number
abbrev pub IsRest : StoreMap → List CellId → List CellId → Type 0
IsRest s cells rest = Lists (IsOutside s cells) rest

-- a data field of a cell of the set leads to a cell of the set
abbrev pub IsClosedUnderFields : List TypeEntry → StoreMap → List CellId → Type 0
IsClosedUnderFields types s cells = (a b : CellId) → Contains cells a → IsParent types s a b → Contains cells b

-- no followed field leads into the set or out of it
abbrev pub IsApart : List TypeEntry → StoreMap → Fields → List CellId → Type 0
IsApart types s fields cells = (f : FieldId) (a b : CellId) → Leads types s fields f a b → Contains cells a ↔ Contains cells b

-- ---- stores that have the cells of the set

-- of the cells of s just those in the set are live in t, and they stand there as in s
pub record IsOn (cells : List CellId) (s t : StoreMap) : Type 0 where
  pub inside : (c : CellId) → Contains cells c → cell_of t c ≡ cell_of s c
  pub outside : (c : CellId) → (Contains cells c → ⊥) → cell_of t c ≡ None
