-- What variables are declared as.
use Rattle.std.specs.Prelude.{Bool, true, false, Option, Some, None}
use Rattle.store_core.specs.declared.ids.TypeId.{TypeId}
use Rattle.store_core.specs.declared.kind.VarKind.{VarKind}
use Rattle.store_core.specs.declared.kind.VarKind.TheVariants as var
use Rattle.pale_calls.specs.declared.class.VarClass.{VarClass}
use Rattle.pale_calls.specs.declared.class.VarClass.TheVariants as class

-- the class of a variable
abbrev pub class_of : VarKind → VarClass
class_of var.Bool = class.Bool
class_of (var.Data ty) = class.Data
class_of (var.Pointer ty) = class.Pointer
class_of (var.LogicSet ty) = class.LogicSet
class_of var.LogicBool = class.LogicBool

-- the type of the cells of a variable, where it is no truth value
abbrev pub type_in : VarKind → Option TypeId
type_in var.Bool = None
type_in (var.Data ty) = Some ty
type_in (var.Pointer ty) = Some ty
type_in (var.LogicSet ty) = Some ty
type_in var.LogicBool = None

abbrev pub is_same_class : VarClass → VarClass → Bool
is_same_class class.Bool class.Bool = true
is_same_class class.Data class.Data = true
is_same_class class.Pointer class.Pointer = true
is_same_class class.LogicSet class.LogicSet = true
is_same_class class.LogicBool class.LogicBool = true
is_same_class _ _ = false

-- null or a cell
abbrev pub holds_cell : VarClass → Bool
holds_cell class.Bool = false
holds_cell class.Data = true
holds_cell class.Pointer = true
holds_cell class.LogicSet = false
holds_cell class.LogicBool = false

-- a truth value
abbrev pub holds_truth : VarClass → Bool
holds_truth class.Bool = true
holds_truth class.Data = false
holds_truth class.Pointer = false
holds_truth class.LogicSet = false
holds_truth class.LogicBool = true

-- a logic variable
abbrev pub is_logic : VarClass → Bool
is_logic class.Bool = false
is_logic class.Data = false
is_logic class.Pointer = false
is_logic class.LogicSet = true
is_logic class.LogicBool = true
