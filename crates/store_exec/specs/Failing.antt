-- Which stores meet a triple, and how a triple fails from a store. (Hoare 1969; Møller and Schwartzbach, PLDI 2001.)
use Rattle.std.specs.Prelude.{◌≡◌, ◌⊎◌, ℕ, false, List, Some, None, IsSomeAnd, IfSome, All, slice_get}
use Rattle.store_core.specs.declared.value.Value.{Value}
use Rattle.store_core.specs.declared.value.Value.TheVariants as value
use Rattle.store_core.specs.Tables.{TypeEntry, VarEntry}
use Rattle.store_core.specs.Stores.{StoreMap, var_value}
use Rattle.routing_walks.specs.WellFormed.{IsWellFormed}
use Rattle.store_exec.specs.declared.cause.Cause.{Cause}
use Rattle.store_exec.specs.declared.outcome.Outcome.TheVariants as outcome
use Rattle.store_exec.specs.declared.triple.Cut.{Cut}
use Rattle.store_exec.specs.declared.triple.Start.{Start}
use Rattle.store_exec.specs.declared.triple.Triple.{Triple}
use Rattle.store_exec.specs.Runs.{RunsCode}
use Rattle.store_exec.specs.Cuts.{AreMet, Escapes, IsFirstCause}

-- null or false
abbrev pub IsBlank : Value → Type 0
IsBlank (value.Bool truth) = truth ≡ false
IsBlank (value.Cell c) = c ≡ None
IsBlank (value.Cells cells) = ⊥

-- the listed variables are null or false; after a call each pointer result is null or names a cell of the returned part, and
-- every other pointer variable is null or names a cell outside it; and the claims are met
pub record StartHolds (types : List TypeEntry) (vars : List VarEntry) (start : Start) (s : StoreMap) : Type 0 where
  pub nulls : All (λ v. IsSomeAnd (var_value s v) IsBlank) start.nulls
  pub pointers : IfSome start.returned (λ part. Escapes types vars s part start.inside → ⊥)
  pub claims : AreMet types vars s start.asserts

-- the store is well-formed, and the triple's start holds
pub record Meets (types : List TypeEntry) (vars : List VarEntry) (t : Triple) (s : StoreMap) : Type 0 where
  pub well_formed : IsWellFormed types vars s
  pub start : StartHolds types vars t.start s

-- the code ends at a cut of the triple, and this is the first cause there; its line is the cut's
pub record FailsAtCut (types : List TypeEntry) (vars : List VarEntry) (t : Triple) (s : StoreMap) (why : Cause) (line : ℕ) : Type 0 where
  pub place : ℕ
  pub cut : Cut
  pub store : StoreMap
  pub ends : RunsCode types t.code s (outcome.End place store)
  pub there : slice_get t.cuts place ≡ Some cut
  pub first : IsFirstCause types vars cut store why
  pub at_line : cut.line ≡ line

-- the triple fails from the store with this cause at this line: in execution, or at the cut that the code reaches
abbrev pub Fails : List TypeEntry → List VarEntry → Triple → StoreMap → Cause → ℕ → Type 0
Fails types vars t s why line = RunsCode types t.code s (outcome.Fail why line) ⊎ FailsAtCut types vars t s why line
