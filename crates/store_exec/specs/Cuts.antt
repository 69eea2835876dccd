-- What is wrong with a store on arriving at a cut. (Møller and Schwartzbach, PLDI 2001.)
use Rattle.std.specs.Prelude.{◌≡◌, ◌⊎◌, ◌<◌, ℕ, List, [], Option, Some, None, IsSomeAnd, All, Contains}
use Rattle.store_core.specs.declared.ids.VarId.{VarId}
use Rattle.store_core.specs.declared.ids.CellId.{CellId}
use Rattle.store_core.specs.declared.kind.VarKind.{VarKind}
use Rattle.store_core.specs.declared.kind.VarKind.TheVariants as var
use Rattle.store_core.specs.declared.value.Value.TheVariants as value
use Rattle.store_core.specs.Tables.{TypeEntry, VarEntry, var_at}
use Rattle.store_core.specs.Stores.{StoreMap, var_value}
use Rattle.routing_walks.specs.CutFaults.{HasDanglingReference, HasShared, HasLeaked, HasWrongField}
use Rattle.routing_walks.specs.Regions.{IsReachedFrom}
use Rattle.store_logic.specs.Terms.{outside}
use Rattle.store_logic.specs.Satisfaction.{Sat}
use Rattle.store_exec.specs.declared.cause.Cause.{Cause}
use Rattle.store_exec.specs.declared.cause.Cause.TheVariants as cause
use Rattle.store_exec.specs.declared.triple.Claim.{Claim}
use Rattle.store_exec.specs.declared.triple.Cut.{Cut}

-- ---- claims

-- the store satisfies the claim's assertion on its region
abbrev pub IsMet : List TypeEntry → List VarEntry → StoreMap → Claim → Type 0
IsMet types vars s claim = Sat types vars [] s claim.region outside claim.assertion

-- the store satisfies each of the claims
abbrev pub AreMet : List TypeEntry → List VarEntry → StoreMap → List Claim → Type 0
AreMet types vars s claims = All (IsMet types vars s) claims

-- ---- the pointer rule of a call

-- a pointer variable
abbrev pub IsPointerVar : VarKind → Type 0
IsPointerVar var.Bool = ⊥
IsPointerVar (var.Data target) = ⊥
IsPointerVar (var.Pointer target) = Unit {0}
IsPointerVar (var.LogicSet target) = ⊥
IsPointerVar var.LogicBool = ⊥

-- a pointer variable of the table, and the cell that it names
pub record PointsTo (vars : List VarEntry) (s : StoreMap) (v : VarId) (c : CellId) : Type 0 where
  pub pointer : IsSomeAnd (var_at vars v) (λ entry. IsPointerVar entry.kind)
  pub names : var_value s v ≡ Some (value.Cell (Some c))

-- of a part, which is what data fields reach from listed data variables: a listed pointer variable names a cell outside it, or
-- another pointer variable names a cell inside it
pub record Escapes (types : List TypeEntry) (vars : List VarEntry) (s : StoreMap) (part inside : List VarId) : Type 0 where
  pub var : VarId
  pub cell : CellId
  pub points : PointsTo vars s var cell
  pub wrong_side : (Contains inside var × (IsReachedFrom types vars s part cell → ⊥))
      ⊎ ((Contains inside var → ⊥) × IsReachedFrom types vars s part cell)

-- the same of the handed part of a call; another cut has none
abbrev pub EscapesAt : List TypeEntry → List VarEntry → StoreMap → Cut → Type 0
EscapesAt types vars s cut = IsSomeAnd cut.handed (λ part. Escapes types vars s part cut.inside)

-- ---- the first cause

-- what is wrong with the store at the cut, as each cause of a cut says; the others come in execution alone
abbrev pub IsWrong : List TypeEntry → List VarEntry → Cut → StoreMap → Cause → Type 0
IsWrong types vars cut s cause.DanglingRef = HasDanglingReference s
IsWrong types vars cut s cause.Shared = HasShared types vars s
IsWrong types vars cut s cause.Leak = HasLeaked types vars s
IsWrong types vars cut s cause.Field = HasWrongField types s
IsWrong types vars cut s cause.Escape = EscapesAt types vars s cut
IsWrong types vars cut s cause.Post = AreMet types vars s cut.asserts → ⊥
IsWrong types vars cut s cause.Null = ⊥
IsWrong types vars cut s cause.Dangling = ⊥
IsWrong types vars cut s cause.DoubleFree = ⊥
IsWrong types vars cut s cause.Assert = ⊥
IsWrong types vars cut s cause.Variant = ⊥

-- the causes are numbered in the order in which a cut is looked at
abbrev pub number_of : Cause → ℕ
number_of cause.Null = 1
number_of cause.Dangling = 2
number_of cause.DoubleFree = 3
number_of cause.DanglingRef = 4
number_of cause.Shared = 5
number_of cause.Leak = 6
number_of cause.Field = 7
number_of cause.Escape = 8
number_of cause.Post = 9
number_of cause.Assert = 10
number_of cause.Variant = 11

-- this is wrong, and nothing of a lower number is
pub record IsFirstCause (types : List TypeEntry) (vars : List VarEntry) (cut : Cut) (s : StoreMap) (why : Cause) : Type 0 where
  pub here : IsWrong types vars cut s why
  pub before : (other : Cause) → number_of other < number_of why → IsWrong types vars cut s other → ⊥

-- nothing is wrong with the store at the cut, or this is the first cause
abbrev pub AtCut : List TypeEntry → List VarEntry → Cut → StoreMap → Option Cause → Type 0
AtCut types vars cut s None = (why : Cause) → IsWrong types vars cut s why → ⊥
AtCut types vars cut s (Some why) = IsFirstCause types vars cut s why
