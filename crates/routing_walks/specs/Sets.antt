-- Sets of cells: by their numbers, and as lists.
use Rattle.std.specs.Prelude.{◌↔◌, ℕ, List, IsTrue, Contains}
use Rattle.std.specs.Ordering.{nat_cmp}
use Rattle.std.specs.BTreeSet.{BTreeSet, contains}
use Rattle.store_core.specs.declared.ids.CellId.{CellId}
use Rattle.store_core.specs.CellLists.{AreRising}

-- the set has the cell's number
abbrev pub Has : BTreeSet ℕ → CellId → Type 0
Has set c = IsTrue (contains nat_cmp set c.0)

-- the list has the cells that belong, each once, by number
pub record Lists (Belongs : CellId → Type 0) (cells : List CellId) : Type 0 where
  pub rising : AreRising cells
  pub members : (d : CellId) → Contains cells d ↔ Belongs d
