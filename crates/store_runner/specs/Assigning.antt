-- Assignments to a field of a cell that was found.
use Rattle.std.specs.Prelude.{◌≡◌, List, Option, IfSome, Result, Ok}
use Rattle.store_core.specs.declared.ids.FieldId.{FieldId}
use Rattle.store_core.specs.declared.ids.CellId.{CellId}
use Rattle.store_core.specs.declared.value.Value.{Value}
use Rattle.store_core.specs.declared.value.Value.TheVariants as value
use Rattle.store_core.specs.Tables.{TypeEntry}
use Rattle.store_core.specs.Stores.{StoreMap, class_of, field_value}
use Rattle.store_logic.specs.declared.act.Rhs.{Rhs}
use Rattle.store_logic.specs.declared.act.Rhs.TheVariants as rhs
use Rattle.store_exec.specs.declared.cause.Cause.{Cause}
use Rattle.store_exec.specs.Steps.{and_then, evaluated, written}

-- no cell is made
abbrev pub MakesNothing : Rhs → Type 0
MakesNothing (rhs.Cell p) = Unit {0}
MakesNothing (rhs.New v) = ⊥
MakesNothing (rhs.Truth c) = Unit {0}

-- the store after an assignment to a field of this cell
abbrev pub cell_assigned : List TypeEntry → StoreMap → Option CellId → FieldId → Rhs → Result StoreMap Cause
cell_assigned types s through last x = and_then (λ got. written got.0 (value.Cell through) last got.1) (evaluated types s x)

-- what is assigned is of the class of what stands in the field before
abbrev pub GivesClass : List TypeEntry → StoreMap → Option CellId → FieldId → Rhs → Type 0
GivesClass types s through last x = (t : StoreMap) (y : Value) → evaluated types s x ≡ Ok (t, y) →
    IfSome through (λ c. IfSome (field_value t c last) (λ old. class_of y ≡ class_of old))
