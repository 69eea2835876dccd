-- Tables of data variables alone.
use Rattle.std.specs.Prelude.{◌≡◌, ◌<◌, ℕ, List, length, IsSome}
use Rattle.std.specs.List.{AllByRecursion}
use Rattle.store_core.specs.declared.ids.VarId.{VarId}
use Rattle.store_core.specs.Tables.{VarEntry}
use Rattle.store_core.specs.Stores.{StoreMap, var_value}
use Rattle.routing_walks.specs.WellFormed.{IsDataVar}

-- so many variables, each a data variable
pub record AreDataVars (count : ℕ) (vars : List VarEntry) : Type 0 where
  pub length_is : length vars ≡ count
  pub each : AllByRecursion (λ entry. IsDataVar entry.kind) vars

-- a variable of the store is one of so many, if a table can have it
abbrev pub IsCovered : StoreMap → ℕ → VarId → Type 0
IsCovered s count v = IsSome (var_value s v) → v.0 < 4294967295 → v.0 < count
