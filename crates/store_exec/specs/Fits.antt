-- When code, cuts, starts and triples fit their tables: what they name is there, and of the class and type that its place needs.
use Rattle.std.specs.Prelude.{◌+◌, ◌<◌, ℕ, List, IfSome, IsSomeAnd, sum_by}
use Rattle.std.specs.List.{AllByRecursion}
use Rattle.store_core.specs.declared.ids.VarId.{VarId}
use Rattle.store_core.specs.declared.kind.VarKind.{VarKind}
use Rattle.store_core.specs.declared.kind.VarKind.TheVariants as var
use Rattle.store_core.specs.Tables.{TypeEntry, VarEntry, var_at}
use Rattle.store_core.specs.Stores.{StoreMap, Fits, IsFresh}
use Rattle.store_logic.specs.declared.act.Rhs.{Rhs}
use Rattle.store_logic.specs.declared.act.Rhs.TheVariants as rhs
use Rattle.store_logic.specs.declared.act.Act.{Act}
use Rattle.store_logic.specs.declared.act.Act.TheVariants as act
use Rattle.store_logic.specs.Fits.{AssertionFits, RegionFits, IsKnownDataVar}
use Rattle.store_logic.specs.FitsCode.{CondFits, ActFits}
use Rattle.store_exec.specs.declared.code.Item.{Item}
use Rattle.store_exec.specs.declared.code.Item.TheOpen.{Item-F}
use Rattle.store_exec.specs.declared.code.Item.TheFolds.{rec-Item, fold-Item}
use Rattle.store_exec.specs.declared.code.Tail.{Tail}
use Rattle.store_exec.specs.declared.code.Tail.TheOpen.{Tail-F, Code-F}
use Rattle.store_exec.specs.declared.code.Tail.TheFolds.{rec-Code, fold-Code}
use Rattle.store_exec.specs.declared.code.Code.{Code}
use Rattle.store_exec.specs.declared.triple.Claim.{Claim}
use Rattle.store_exec.specs.declared.triple.Cut.{Cut}
use Rattle.store_exec.specs.declared.triple.Start.{Start}
use Rattle.store_exec.specs.declared.triple.Triple.{Triple}
use Rattle.store_exec.specs.Cuts.{IsPointerVar}

-- ---- code

-- one item fits where its parts do
abbrev pub ItemFitsNode : List TypeEntry → List VarEntry → (Part : Type 0) → (Part → Item) → (Part → Type 0) → Item-F Part → Type 0
ItemFitsNode types vars Part whole fits (Item-F.Do line a) = ActFits types vars a
ItemFitsNode types vars Part whole fits (Item-F.If line c taken other) = CondFits types vars c × AllByRecursion fits taken × AllByRecursion fits other

abbrev pub ItemFits : List TypeEntry → List VarEntry → Item → Type 0
ItemFits types vars = rec-Item (Type 0) (ItemFitsNode types vars)

abbrev pub ItemsFit : List TypeEntry → List VarEntry → List Item → Type 0
ItemsFit types vars = AllByRecursion (ItemFits types vars)

-- ---- how many cells are made

abbrev pub news_of_rhs : Rhs → ℕ
news_of_rhs (rhs.Cell p) = 0
news_of_rhs (rhs.New v) = 1
news_of_rhs (rhs.Truth c) = 0

abbrev pub news_of_act : Act → ℕ
news_of_act (act.Assign p x) = news_of_rhs x
news_of_act (act.Free v) = 0
news_of_act (act.Assert a) = 0

abbrev pub news_node : Item-F ℕ → ℕ
news_node (Item-F.Do line a) = news_of_act a
news_node (Item-F.If line c taken other) = sum_by (λ n. n) taken + sum_by (λ n. n) other

-- how many `new` stand in an item, in all its parts
abbrev pub news_of_item : Item → ℕ
news_of_item = fold-Item ℕ news_node

abbrev pub news_of : List Item → ℕ
news_of = sum_by news_of_item

-- ---- whole codes

abbrev pub TailFitsNode : List TypeEntry → List VarEntry → (T C : Type 0) → (T → Tail) → (C → Code) → (T → Type 0) → (C → Type 0) → Tail-F T C → Type 0
TailFitsNode types vars T C tail code tails codes (Tail-F.Cut place) = Unit {0}
TailFitsNode types vars T C tail code tails codes (Tail-F.Branch line c taken other) = CondFits types vars c × codes taken × codes other

abbrev pub CodeFitsNode : List TypeEntry → List VarEntry → (T C : Type 0) → (T → Tail) → (C → Code) → (T → Type 0) → (C → Type 0) → Code-F T C → Type 0
CodeFitsNode types vars T C tail code tails codes x = ItemsFit types vars x.items × tails x.tail

-- the items of a code, its conditions and the codes behind it fit
abbrev pub CodeFits : List TypeEntry → List VarEntry → Code → Type 0
CodeFits types vars = rec-Code (Type 0) (Type 0) (TailFitsNode types vars) (CodeFitsNode types vars)

abbrev pub news_of_tail : Tail-F ℕ ℕ → ℕ
news_of_tail (Tail-F.Cut place) = 0
news_of_tail (Tail-F.Branch line c taken other) = taken + other

-- how many `new` stand in a code, in all its parts
abbrev pub news_of_code : Code → ℕ
news_of_code = fold-Code ℕ ℕ news_of_tail (λ x. news_of x.items + x.tail)

-- the code can be run on the store: both fit the types and some variable table, the store is fresh, and each `new` that stands in
-- the code finds a number for its cell
pub record CanRunCode (types : List TypeEntry) (s : StoreMap) (code : Code) : Type 0 where
  pub vars : List VarEntry
  pub fits : Fits types vars s
  pub fresh : IsFresh s
  pub code_fits : CodeFits types vars code
  pub room : s.next + news_of_code code < 4294967295

-- ---- cuts and starts

-- a pointer variable of the table
abbrev pub IsKnownPointerVar : List VarEntry → VarId → Type 0
IsKnownPointerVar vars v = IsSomeAnd (var_at vars v) (λ entry. IsPointerVar entry.kind)

-- no logic variable
abbrev pub IsProgramVar : VarKind → Type 0
IsProgramVar var.Bool = Unit {0}
IsProgramVar (var.Data target) = Unit {0}
IsProgramVar (var.Pointer target) = Unit {0}
IsProgramVar (var.LogicSet target) = ⊥
IsProgramVar var.LogicBool = ⊥

-- the region is named by data variables, and the assertion fits
pub record ClaimFits (types : List TypeEntry) (vars : List VarEntry) (claim : Claim) : Type 0 where
  pub region : RegionFits vars claim.region
  pub assertion : AssertionFits types vars claim.assertion

-- what is handed over are data variables, and what is listed beside them pointer variables
pub record CutFits (types : List TypeEntry) (vars : List VarEntry) (cut : Cut) : Type 0 where
  pub handed : IfSome cut.handed (AllByRecursion (IsKnownDataVar vars))
  pub inside : AllByRecursion (IsKnownPointerVar vars) cut.inside
  pub asserts : AllByRecursion (ClaimFits types vars) cut.asserts

-- the variables that are null or false are no logic variables; what is returned are data variables, and what is listed beside
-- them pointer variables
pub record StartFits (types : List TypeEntry) (vars : List VarEntry) (start : Start) : Type 0 where
  pub nulls : AllByRecursion (λ v. IsSomeAnd (var_at vars v) (λ entry. IsProgramVar entry.kind)) start.nulls
  pub returned : IfSome start.returned (AllByRecursion (IsKnownDataVar vars))
  pub inside : AllByRecursion (IsKnownPointerVar vars) start.inside
  pub asserts : AllByRecursion (ClaimFits types vars) start.asserts

-- the start, the code and each cut of the triple fit
pub record TripleFits (types : List TypeEntry) (vars : List VarEntry) (t : Triple) : Type 0 where
  pub start : StartFits types vars t.start
  pub code : CodeFits types vars t.code
  pub cuts : AllByRecursion (CutFits types vars) t.cuts
