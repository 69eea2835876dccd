-- When paths, conditions and acts of code fit their tables.
use Rattle.std.specs.Prelude.{◌≡◌, List, Option, Some, None, IsSomeAnd}
use Rattle.std.specs.Option.{option_and_then}
use Rattle.store_core.specs.declared.ids.TypeId.{TypeId}
use Rattle.store_core.specs.declared.ids.VariantId.{VariantId}
use Rattle.store_core.specs.declared.kind.VarKind.{VarKind}
use Rattle.store_core.specs.declared.kind.VarKind.TheVariants as var
use Rattle.store_core.specs.Tables.{TypeEntry, VarEntry, KnowsVariant, var_at}
use Rattle.store_logic.specs.declared.path.Path.{Path}
use Rattle.store_logic.specs.declared.path.Operand.{Operand}
use Rattle.store_logic.specs.declared.path.Operand.TheVariants as operand
use Rattle.store_logic.specs.declared.cond.Cond.{Cond}
use Rattle.store_logic.specs.declared.cond.Cond.TheOpen.{Cond-F}
use Rattle.store_logic.specs.declared.cond.Cond.TheFolds.{rec-Cond}
use Rattle.store_logic.specs.declared.act.Rhs.{Rhs}
use Rattle.store_logic.specs.declared.act.Rhs.TheVariants as rhs
use Rattle.store_logic.specs.declared.act.Act.{Act}
use Rattle.store_logic.specs.declared.act.Act.TheVariants as act
use Rattle.store_logic.specs.Sorts.{Sort, Truth, Cell, IsCellSort, sort_along}
use Rattle.store_logic.specs.Fits.{AssertionFits}

-- the sort of a variable of code; a logic variable stands in no code
abbrev pub code_sort : VarKind → Option Sort
code_sort var.Bool = Some Truth
code_sort (var.Data target) = Some (Cell target)
code_sort (var.Pointer target) = Some (Cell target)
code_sort (var.LogicSet target) = None
code_sort var.LogicBool = None

-- the sort of what stands at a path
abbrev pub path_sort : List TypeEntry → List VarEntry → Path → Option Sort
path_sort types vars p =
    option_and_then (λ start. sort_along types start p.fields) (option_and_then (λ entry. code_sort entry.kind) (var_at vars p.var))

-- a path of this sort stands at a variable that isn't a logic variable, and each of its fields is one of the type before it
abbrev pub PathFits : List TypeEntry → List VarEntry → Path → Sort → Type 0
PathFits types vars p sort = path_sort types vars p ≡ Some sort

-- the operand is of the sort; null is of each sort of cells
abbrev pub OperandFits : List TypeEntry → List VarEntry → Operand → Sort → Type 0
OperandFits types vars operand.Null sort = IsCellSort sort
OperandFits types vars (operand.Path p) sort = PathFits types vars p sort

-- the path names a cell of the type of the variant, which is there
pub record VariantCondFits (types : List TypeEntry) (vars : List VarEntry) (p : Path) (v : VariantId) : Type 0 where
  pub variant : KnowsVariant types v
  pub path : PathFits types vars p (Cell v.ty)

-- the operands are null or cells of one type
pub record SameCondFits (types : List TypeEntry) (vars : List VarEntry) (p q : Operand) : Type 0 where
  pub ty : TypeId
  pub left : OperandFits types vars p (Cell ty)
  pub right : OperandFits types vars q (Cell ty)

-- one form of condition fits, where its parts do
abbrev pub CondFitsNode : List TypeEntry → List VarEntry → (Part : Type 0) → (Part → Cond) → (Part → Type 0) → Cond-F Part → Type 0
CondFitsNode types vars Part whole fits Cond-F.True = Unit {0}
CondFitsNode types vars Part whole fits Cond-F.False = Unit {0}
CondFitsNode types vars Part whole fits (Cond-F.Bool p) = PathFits types vars p Truth
CondFitsNode types vars Part whole fits (Cond-F.Is p v) = VariantCondFits types vars p v
CondFitsNode types vars Part whole fits (Cond-F.Same p q) = SameCondFits types vars p q
CondFitsNode types vars Part whole fits (Cond-F.Not c) = fits c
CondFitsNode types vars Part whole fits (Cond-F.And c d) = fits c × fits d
CondFitsNode types vars Part whole fits (Cond-F.Or c d) = fits c × fits d

abbrev pub CondFits : List TypeEntry → List VarEntry → Cond → Type 0
CondFits types vars = rec-Cond (Type 0) (CondFitsNode types vars)

-- what is assigned to a place of this sort: null or a cell of its type, a new cell of a variant of its type, or a truth value
abbrev pub RhsFits : List TypeEntry → List VarEntry → Rhs → Sort → Type 0
RhsFits types vars (rhs.Cell p) sort = IsCellSort sort × OperandFits types vars p sort
RhsFits types vars (rhs.New v) sort = KnowsVariant types v × (sort ≡ Cell v.ty)
RhsFits types vars (rhs.Truth c) sort = CondFits types vars c × (sort ≡ Truth)

-- a data variable or a pointer variable
abbrev pub HoldsCell : VarKind → Type 0
HoldsCell var.Bool = ⊥
HoldsCell (var.Data target) = Unit {0}
HoldsCell (var.Pointer target) = Unit {0}
HoldsCell (var.LogicSet target) = ⊥
HoldsCell var.LogicBool = ⊥

-- a place gets a value of its sort; a data or pointer variable is freed; an assertion fits
abbrev pub ActFits : List TypeEntry → List VarEntry → Act → Type 0
ActFits types vars (act.Assign p x) = (sort : Sort) × PathFits types vars p sort × RhsFits types vars x sort
ActFits types vars (act.Free v) = IsSomeAnd (var_at vars v) (λ entry. HoldsCell entry.kind)
ActFits types vars (act.Assert a) = AssertionFits types vars a
