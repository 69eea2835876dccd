-- Sorts: what a name, a path or an argument stands for, by the tables.
use Rattle.std.specs.Prelude.{◌≡◌, ◌==◌, List, [], ◌∷◌, slice_get, Option, Some, None, option_map, if◌then◌else◌}
use Rattle.std.specs.Option.{option_and_then}
use Rattle.store_core.specs.declared.ids.TypeId.{TypeId}
use Rattle.store_core.specs.declared.ids.FieldId.{FieldId}
use Rattle.store_core.specs.declared.kind.FieldKind.{FieldKind}
use Rattle.store_core.specs.declared.kind.FieldKind.TheVariants as field
use Rattle.store_core.specs.declared.kind.VarKind.{VarKind}
use Rattle.store_core.specs.declared.kind.VarKind.TheVariants as var
use Rattle.store_core.specs.Tables.{TypeEntry, VarEntry, field_at, var_at}
use Rattle.store_logic.specs.declared.term.Base.{Base}
use Rattle.store_logic.specs.declared.term.Base.TheVariants as base
use Rattle.store_logic.specs.declared.term.Term.{Term}
use Rattle.store_logic.specs.declared.term.Term.TheVariants as term
use Rattle.store_logic.specs.declared.arg.Arg.{Arg}
use Rattle.store_logic.specs.declared.arg.Arg.TheVariants as arg

-- a truth value, null or a cell of a type, a set of cells of a type
pub data Sort : Type 0 where
  Truth : Sort
  Cell : TypeId → Sort
  Set : TypeId → Sort

-- a sort of cells
abbrev pub IsCellSort : Sort → Type 0
IsCellSort Truth = ⊥
IsCellSort (Cell ty) = Unit {0}
IsCellSort (Set ty) = ⊥

-- what can be named at a place in an assertion: the variables; what the quantifiers around bind, the nearest first; the
-- parameters of the predicate whose body it is; and the predicates, each by the sorts of its parameters
pub record Scope : Type 0 where
  pub vars : List VarEntry
  pub bound : List Sort
  pub params : List Sort
  pub preds : List (List Sort)

-- the variables alone
abbrev pub scope_of : List VarEntry → Scope
scope_of vars = record { vars = vars; bound = []; params = []; preds = [] }

-- under one quantifier more
abbrev pub under : Sort → Scope → Scope
under sort scope = record scope { bound = sort ∷ scope.bound }

-- ---- the sorts of fields, variables, names and paths

abbrev pub field_sort : FieldKind → Sort
field_sort field.Bool = Truth
field_sort (field.Data target) = Cell target
field_sort (field.Pointer target along) = Cell target

abbrev pub var_sort : VarKind → Sort
var_sort var.Bool = Truth
var_sort (var.Data target) = Cell target
var_sort (var.Pointer target) = Cell target
var_sort (var.LogicSet target) = Set target
var_sort var.LogicBool = Truth

-- the sort of what the fields lead to from something of this sort: each field is one of the type before it
abbrev pub sort_along : List TypeEntry → Sort → List FieldId → Option Sort
sort_along types sort [] = Some sort
sort_along types (Cell ty) (f ∷ fields) =
    if f.ty.0 == ty.0 then option_and_then (λ entry. sort_along types (field_sort entry.kind) fields) (field_at types f) else None
sort_along types _ (f ∷ fields) = None

abbrev pub base_sort : Scope → Base → Option Sort
base_sort scope (base.Var v) = option_map (λ entry. var_sort entry.kind) (var_at scope.vars v)
base_sort scope (base.Bound n) = slice_get scope.bound n
base_sort scope (base.Param n) = slice_get scope.params n

-- ---- what is of a sort

-- the name stands for something of the sort
abbrev pub BaseFits : Scope → Base → Sort → Type 0
BaseFits scope name sort = base_sort scope name ≡ Some sort

-- the term is of the sort; null is of each sort of cells
abbrev pub TermFits : List TypeEntry → Scope → Term → Sort → Type 0
TermFits types scope term.Null sort = IsCellSort sort
TermFits types scope (term.At name fields) sort = option_and_then (λ start. sort_along types start fields) (base_sort scope name) ≡ Some sort

-- the argument is of the sort, and of its class
abbrev pub ArgFits : List TypeEntry → Scope → Arg → Sort → Type 0
ArgFits types scope (arg.Cell t) Truth = ⊥
ArgFits types scope (arg.Cell t) (Cell ty) = TermFits types scope t (Cell ty)
ArgFits types scope (arg.Cell t) (Set ty) = ⊥
ArgFits types scope (arg.Set name) Truth = ⊥
ArgFits types scope (arg.Set name) (Cell ty) = ⊥
ArgFits types scope (arg.Set name) (Set ty) = BaseFits scope name (Set ty)
ArgFits types scope (arg.Truth t) Truth = TermFits types scope t Truth
ArgFits types scope (arg.Truth t) (Cell ty) = ⊥
ArgFits types scope (arg.Truth t) (Set ty) = ⊥

-- one argument for each parameter, of its sort
abbrev pub ArgsFit : List TypeEntry → Scope → List Arg → List Sort → Type 0
ArgsFit types scope [] [] = Unit {0}
ArgsFit types scope [] (sort ∷ sorts) = ⊥
ArgsFit types scope (x ∷ args) [] = ⊥
ArgsFit types scope (x ∷ args) (sort ∷ sorts) = ArgFits types scope x sort × ArgsFit types scope args sorts
