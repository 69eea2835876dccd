-- What the laws ask of tables and of stores. (Klarlund and Schwartzbach 1993; the spelling is own.)
use Rattle.std.specs.Prelude.{◌<◌, List, IfSome}
use Rattle.store_core.specs.declared.ids.FieldId.{FieldId}
use Rattle.store_core.specs.declared.ids.VarId.{VarId}
use Rattle.store_core.specs.Tables.{TypeEntry, VarEntry, field_at, var_at, variant_count}
use Rattle.store_core.specs.Stores.{StoreMap, var_value}
use Rattle.routing_walks.specs.WellFormed.{SetHoldsLive}

-- a field that one variant alone has is one of a variant that its type has
abbrev pub OwnersAreThere : List TypeEntry → Type 0
OwnersAreThere types = (f : FieldId) → IfSome (field_at types f) (λ entry. IfSome entry.only (λ i. i < variant_count types f.ty))

-- every logic set holds live cells of its type
abbrev pub SetsHoldLive : List VarEntry → StoreMap → Type 0
SetsHoldLive vars s = (v : VarId) → IfSome (var_at vars v) (λ entry. IfSome (var_value s v) (SetHoldsLive s entry.kind))
