-- Stores whose variables name the roots of their trees, and stores put together of two.
use Rattle.std.specs.Prelude.{◌≡◌, ◌⊎◌, List, IfSome}
use Rattle.store_core.specs.declared.ids.VarId.{VarId}
use Rattle.store_core.specs.declared.ids.CellId.{CellId}
use Rattle.store_core.specs.Tables.{TypeEntry, VarEntry, var_at}
use Rattle.store_core.specs.Stores.{StoreMap, IsLive, IsAbove, cell_of, var_value, VarsFit}
use Rattle.routing_walks.specs.declared.fault.Place.TheVariants as place
use Rattle.routing_walks.specs.Walks.{IsRoot}
use Rattle.routing_walks.specs.WellFormed.{Names, VarHoldsLive, SetHoldsLive}

-- every cell variable holds null or a live cell of its type; the data variables name each live cell that no data field leads
-- to, no two of them the same one, and no other cell
pub record NamesRoots (types : List TypeEntry) (vars : List VarEntry) (s : StoreMap) : Type 0 where
  pub holds : (v : VarId) → IfSome (var_at vars v) (λ entry. IfSome (var_value s v) (VarHoldsLive s entry.kind))
  pub each : (c : CellId) → IsRoot types s c → (v : VarId) × Names types vars s (place.Var v) c
  pub once : (c : CellId) (v w : VarId) → Names types vars s (place.Var v) c → Names types vars s (place.Var w) c → v ≡ w
  pub alone : (v : VarId) (c : CellId) → Names types vars s (place.Var v) c → IsRoot types s c

-- the variables' values fit their table, every logic set holds live cells of its type, and the next number is above that of
-- every cell
pub record AreHeld (vars : List VarEntry) (s : StoreMap) : Type 0 where
  pub fit : VarsFit s vars s.vars
  pub sets : (v : VarId) → IfSome (var_at vars v) (λ entry. IfSome (var_value s v) (SetHoldsLive s entry.kind))
  pub above : IsAbove s

-- the live cells of u are those of s and those of t, and each stands there as it stands in the one; no cell is live in both
pub record IsTogether (s t u : StoreMap) : Type 0 where
  pub of_one : (c : CellId) → IsLive s c → cell_of u c ≡ cell_of s c
  pub of_other : (c : CellId) → IsLive t c → cell_of u c ≡ cell_of t c
  pub of_either : (c : CellId) → IsLive u c → IsLive s c ⊎ IsLive t c
  pub apart : (c : CellId) → IsLive s c → IsLive t c → ⊥
