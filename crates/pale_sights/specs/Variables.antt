-- Variables of a procedure: what they are declared as, and their faults.
use Rattle.std.specs.Prelude.{ℕ, List, [], ◌∷◌, ◌++◌, length, map, nat_lt, None}
use Rattle.pale_text.specs.declared.refusal.RefusalKind.TheVariants as kind
use Rattle.pale_syntax.specs.declared.tree.names.Name.{Name}
use Rattle.pale_syntax.specs.declared.tree.declaration.Parameter.{Parameter}
use Rattle.pale_syntax.specs.declared.tree.declaration.Parameter.TheVariants as parameter
use Rattle.pale_syntax.specs.declared.tree.declaration.LogicParameter.{LogicParameter}
use Rattle.pale_syntax.specs.declared.tree.declaration.LogicParameter.TheVariants as logic
use Rattle.store_core.specs.declared.kind.VarKind.{VarKind}
use Rattle.store_core.specs.declared.kind.VarKind.TheVariants as var
use Rattle.store_core.specs.Tables.{TypeEntry, VarEntry}
use Rattle.pale_tables.specs.Faults.{Fault, need, ◌>>◌}
use Rattle.pale_tables.specs.Names.{is_new}
use Rattle.pale_vocabulary.specs.Parameters.{type_of, type_fault}

-- ---- parameters, results and locals; a type that isn't there, which is refused, counts as the first

abbrev pub name_of : Parameter → Name
name_of (parameter.Data name ty) = name
name_of (parameter.Pointer name ty) = name
name_of (parameter.Bool name) = name

abbrev pub kind_of : List TypeEntry → Parameter → VarKind
kind_of types (parameter.Data name ty) = var.Data (type_of types ty)
kind_of types (parameter.Pointer name ty) = var.Pointer (type_of types ty)
kind_of types (parameter.Bool name) = var.Bool

abbrev pub variable_of : List TypeEntry → Parameter → VarEntry
variable_of types p = record { name = (name_of p).bytes; kind = kind_of types p }

-- ---- logic variables

abbrev pub logic_name_of : LogicParameter → Name
logic_name_of (logic.Set name ty) = name
logic_name_of (logic.Bool name) = name

abbrev pub logic_kind_of : List TypeEntry → LogicParameter → VarKind
logic_kind_of types (logic.Set name ty) = var.LogicSet (type_of types ty)
logic_kind_of types (logic.Bool name) = var.LogicBool

abbrev pub logic_of : List TypeEntry → LogicParameter → VarEntry
logic_of types p = record { name = (logic_name_of p).bytes; kind = logic_kind_of types p }

-- ---- faults

-- a name after those before it: it is at most the 64th, and new
unfoldable pub name_fault : List (List ℕ) → Name → Fault
name_fault before x = need (nat_lt (length before) 64) kind.ManyVars x.place >> need (is_new before x.bytes) kind.Duplicate x.place

-- the type is there
unfoldable pub kind_fault : List TypeEntry → Parameter → Fault
kind_fault types (parameter.Data name ty) = type_fault types ty
kind_fault types (parameter.Pointer name ty) = type_fault types ty
kind_fault types (parameter.Bool name) = None

unfoldable pub logic_kind_fault : List TypeEntry → LogicParameter → Fault
logic_kind_fault types (logic.Set name ty) = type_fault types ty
logic_kind_fault types (logic.Bool name) = None

-- the name, and then the type
unfoldable pub variable_fault : List TypeEntry → List (List ℕ) → Parameter → Fault
variable_fault types before p = name_fault before (name_of p) >> kind_fault types p

unfoldable pub logic_fault : List TypeEntry → List (List ℕ) → LogicParameter → Fault
logic_fault types before p = name_fault before (logic_name_of p) >> logic_kind_fault types p

-- declarations after those with these names, in order
abbrev pub variables_fault : List TypeEntry → List (List ℕ) → List Parameter → Fault
variables_fault types before [] = None
variables_fault types before (p ∷ others) = variable_fault types before p >> variables_fault types (before ++ (name_of p).bytes ∷ []) others

abbrev pub logics_fault : List TypeEntry → List (List ℕ) → List LogicParameter → Fault
logics_fault types before [] = None
logics_fault types before (p ∷ others) = logic_fault types before p >> logics_fault types (before ++ (logic_name_of p).bytes ∷ []) others

-- the names with those of these declarations
abbrev pub with_names : List (List ℕ) → List Parameter → List (List ℕ)
with_names before parameters = before ++ map (λ p. (name_of p).bytes) parameters

abbrev pub with_logic_names : List (List ℕ) → List LogicParameter → List (List ℕ)
with_logic_names before parameters = before ++ map (λ p. (logic_name_of p).bytes) parameters
