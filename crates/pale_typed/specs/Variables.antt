-- When what a procedure names fits: variables and their numbers, what a call hands over, and the routes of pointer fields.
use Rattle.std.specs.Prelude.{◌≡◌, ℕ, ◌+◌, Bool, IsTrue, false, not, List, [], ◌∷◌, flat_map}
use Rattle.std.specs.Prelude.{Option, Some, option_map, IsSomeAnd, if◌then◌else◌}
use Rattle.std.specs.Option.{option_map_or}
use Rattle.std.specs.List.{AllByRecursion}
use Rattle.store_core.specs.declared.ids.VarId.{VarId}
use Rattle.store_core.specs.declared.kind.FieldKind.{FieldKind}
use Rattle.store_core.specs.declared.kind.FieldKind.TheVariants as field
use Rattle.store_core.specs.declared.kind.VarKind.{VarKind}
use Rattle.store_core.specs.Tables.{TypeEntry, FieldEntry, VarEntry, var_at}
use Rattle.store_logic.specs.Fits.{RouteFits}
use Rattle.pale_calls.specs.declared.class.VarClass.{VarClass}
use Rattle.pale_calls.specs.declared.actual.Actual.{Actual}
use Rattle.pale_calls.specs.declared.actual.Actual.TheVariants as actual
use Rattle.pale_calls.specs.Classes.{class_of, holds_cell, holds_truth, is_logic}

-- ---- variables

-- the numbers of variables, the first of which has this one
abbrev pub numbers : ℕ → List VarEntry → List VarId
numbers number [] = []
numbers number (v ∷ vars) = record { 0 = number } ∷ numbers (number + 1) vars

-- what a variable of the table holds
abbrev pub kind_at : List VarEntry → VarId → Option VarKind
kind_at vars v = option_map (λ entry. entry.kind) (var_at vars v)

-- a variable of the table, of a class that passes the test
abbrev pub IsOfClass : (VarClass → Bool) → List VarEntry → VarId → Type 0
IsOfClass test vars v = IsSomeAnd (kind_at vars v) (λ kind. IsTrue (test (class_of kind)))

abbrev pub IsLogicVariable : List VarEntry → VarId → Type 0
IsLogicVariable vars = IsOfClass is_logic vars

-- no logic variable
abbrev pub IsProgramVariable : List VarEntry → VarId → Type 0
IsProgramVariable vars = IsOfClass (λ of. not (is_logic of)) vars

-- ---- calls

-- a variable of the caller, of the class and type of one of the callee
pub record IsLike (vars theirs : List VarEntry) (v u : VarId) : Type 0 where
  pub kind : VarKind
  pub own : kind_at vars v ≡ Some kind
  pub other : kind_at theirs u ≡ Some kind

-- what is handed over for a variable of the callee: `null` stands for a cell, `true` and `false` for a truth value
abbrev pub ActualFits : List VarEntry → List VarEntry → Actual → VarId → Type 0
ActualFits vars theirs (actual.Var v) u = IsLike vars theirs v u
ActualFits vars theirs actual.Null u = IsOfClass holds_cell theirs u
ActualFits vars theirs (actual.Truth truth) u = IsOfClass holds_truth theirs u

-- the data and pointer variables that are handed over
abbrev pub cell_in : List VarEntry → Actual → List VarId
cell_in vars (actual.Var v) = if option_map_or (λ kind. holds_cell (class_of kind)) (kind_at vars v) false then v ∷ [] else []
cell_in vars actual.Null = []
cell_in vars (actual.Truth truth) = []

abbrev pub cells_in : List VarEntry → List Actual → List VarId
cells_in vars args = flat_map (cell_in vars) args

-- ---- pointer fields

-- the route of a pointer field fits, as one of an assertion does
abbrev pub KindFits : List TypeEntry → FieldKind → Type 0
KindFits types field.Bool = Unit {0}
KindFits types (field.Data target) = Unit {0}
KindFits types (field.Pointer target along) = RouteFits types along

abbrev pub FieldsFit : List TypeEntry → List FieldEntry → Type 0
FieldsFit types = AllByRecursion (λ f. KindFits types f.kind)
