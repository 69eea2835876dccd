-- What is decoded: the store that is read off a tree, its pointer fields set.
use Rattle.std.specs.Prelude.{◌≡◌, List}
use Rattle.gta_theory.specs.Assignments.{Assignment}
use Rattle.store_core.specs.Tables.{TypeEntry, VarEntry}
use Rattle.store_core.specs.Stores.{StoreMap}
use Rattle.witness_store.specs.Pointers.{IsSameButPointers}
use Rattle.tree_store.specs.Decoded.{Standing, AreCells, decoded}

-- the store is the one that is read off the tracks, with null in every pointer field
pub record IsReadOff (types : List TypeEntry) (vars : List VarEntry) (a : Assignment) (s : StoreMap) : Type 0 where
  pub cells : List Standing
  pub cells_are : AreCells types a cells
  pub is : s ≡ decoded types vars a cells

-- the same but for the pointer fields
pub record IsReadOffButPointers (types : List TypeEntry) (vars : List VarEntry) (a : Assignment) (s : StoreMap) : Type 0 where
  pub cells : List Standing
  pub cells_are : AreCells types a cells
  pub same : IsSameButPointers types (decoded types vars a cells) s
