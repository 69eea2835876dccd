-- A store whose pointer fields were set.
use Rattle.std.specs.Prelude.{List}
use Rattle.store_core.specs.Tables.{TypeEntry, VarEntry}
use Rattle.store_core.specs.Stores.{StoreMap, Fits, IsFresh}
use Rattle.witness_store.specs.Pointers.{ArePointersSet, IsSameButPointers}

-- the second store is the first but for its pointer fields, which are set, and it fits the tables and is fresh where the first is
pub record IsSetFrom (types : List TypeEntry) (s t : StoreMap) : Type 0 where
  pub same : IsSameButPointers types s t
  pub pointers : ArePointersSet types t
  pub fits : (vars : List VarEntry) → Fits types vars s → Fits types vars t
  pub fresh : IsFresh s → IsFresh t
