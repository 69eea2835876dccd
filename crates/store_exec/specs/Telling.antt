-- How what is wrong at a cut is told.
use Rattle.std.specs.Prelude.{◌⊎◌, List, Contains}
use Rattle.store_core.specs.declared.ids.VarId.{VarId}
use Rattle.store_core.specs.declared.ids.CellId.{CellId}
use Rattle.store_core.specs.Tables.{VarEntry}
use Rattle.store_core.specs.Stores.{StoreMap}
use Rattle.routing_walks.specs.declared.fault.CutFault.{CutFault}
use Rattle.routing_walks.specs.declared.fault.CutFault.TheVariants as fault
use Rattle.store_exec.specs.declared.cause.Cause.{Cause}
use Rattle.store_exec.specs.declared.cause.Cause.TheVariants as cause
use Rattle.store_exec.specs.Cuts.{PointsTo}

-- the cause of each condition of a store at a cut
abbrev pub cause_of_fault : CutFault → Cause
cause_of_fault fault.DanglingReference = cause.DanglingRef
cause_of_fault fault.Shared = cause.Shared
cause_of_fault fault.Leak = cause.Leak
cause_of_fault fault.Field = cause.Field

-- the pointer variable names a cell on the wrong side: it is listed and the cell isn't one of these, or it isn't and the cell is
abbrev pub IsAstray : List VarEntry → StoreMap → List CellId → List VarId → VarId → Type 0
IsAstray vars s cells inside v = (c : CellId) × PointsTo vars s v c
    × ((Contains inside v × (Contains cells c → ⊥)) ⊎ ((Contains inside v → ⊥) × Contains cells c))
