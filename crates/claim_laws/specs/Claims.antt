-- When a claim fits and names no variable but some, and what may be put in for its variables.
use Rattle.std.specs.Prelude.{◌≡◌, List}
use Rattle.std.specs.List.{AllByRecursion}
use Rattle.store_core.specs.declared.ids.VarId.{VarId}
use Rattle.store_core.specs.Tables.{TypeEntry, VarEntry}
use Rattle.store_logic.specs.declared.term.Base.{Base}
use Rattle.store_logic.specs.declared.term.Base.TheVariants as base
use Rattle.store_logic.specs.declared.assertion.Assertion.{Assertion}
use Rattle.store_logic.specs.Uses.{names_in}
use Rattle.store_logic.specs.Filling.{Filling, of_term, of_truth}
use Rattle.store_logic.specs.Sorts.{Sort, Truth, scope_of, TermFits}
use Rattle.store_logic.specs.Fits.{AssertionFits}

-- no variable, or one of which this is so
abbrev pub NameMayBe : (VarId → Type 0) → Base → Type 0
NameMayBe MayBe (base.Var v) = MayBe v
NameMayBe MayBe (base.Bound k) = Unit {0}
NameMayBe MayBe (base.Param k) = Unit {0}

-- the assertion fits, and names no variable but those of which this is so
pub record StatedFits (types : List TypeEntry) (vars : List VarEntry) (MayBe : VarId → Type 0) (a : Assertion) : Type 0 where
  pub fits : AssertionFits types vars a
  pub names : AllByRecursion (λ n. NameMayBe MayBe n.name) (names_in a)

-- what is put in for a variable of this sort: a path of the sort, null for a cell, or a truth value
abbrev pub FillingFits : List TypeEntry → List VarEntry → Filling → Sort → Type 0
FillingFits types vars (of_term t) sort = TermFits types (scope_of vars) t sort
FillingFits types vars (of_truth truth) sort = sort ≡ Truth
