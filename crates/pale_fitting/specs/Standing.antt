-- When visible names and declared predicates stand for what an assertion or code may name by number.
use Rattle.std.specs.Prelude.{◌≡◌, ℕ, IsTrue, List, [], ◌∷◌, length, map, IsSome, IsSomeAnd}
use Rattle.std.specs.List.{AllByRecursion}
use Rattle.store_core.specs.declared.ids.VarId.{VarId}
use Rattle.store_core.specs.Tables.{VarEntry, var_at}
use Rattle.store_logic.specs.Sorts as logic
use Rattle.store_logic.specs.Sorts.{Scope, BaseFits}
use Rattle.store_logic.specs.FitsCode.{code_sort}
use Rattle.pale_terms.specs.declared.sort.Sort.{Sort}
use Rattle.pale_terms.specs.declared.sort.Sort.TheVariants as sort
use Rattle.pale_terms.specs.declared.scope.Origin.TheVariants as origin
use Rattle.pale_terms.specs.Sorts.{kept}
use Rattle.pale_terms.specs.Visibles.{Entry}
use Rattle.pale_terms.specs.Scopes.{base_of}
use Rattle.pale_vocabulary.specs.Heads.{Head}

-- the same sort, as assertions have it
abbrev pub sort_in : Sort → logic.Sort
sort_in sort.Truth = logic.Truth
sort_in (sort.Cell ty) = logic.Cell ty
sort_in (sort.Set ty) = logic.Set ty

-- ---- assertions

-- a name that the place may use, with so many visible after it, has its sort in the scope
abbrev pub HasItsSort : Scope → ℕ → Entry → Type 0
HasItsSort scope after e = IsTrue e.visible.may → BaseFits scope (base_of e.visible.origin after) (sort_in e.visible.sort)

-- each visible name that the place may use has its sort in the scope
abbrev pub StandFor : List Entry → Scope → Type 0
StandFor [] scope = Unit {0}
StandFor (e ∷ entries) scope = HasItsSort scope (length entries) e × StandFor entries scope

-- the parameters of predicates, as assertions have their sorts
abbrev pub pred_sorts : List Head → List (List logic.Sort)
pred_sorts heads = map (λ head. map sort_in head.params) heads

-- what assertions of a procedure may name: its variables and the predicates
abbrev pub scope_with : List VarEntry → List Head → Scope
scope_with vars heads = record { vars = vars; bound = []; params = []; preds = pred_sorts heads }

-- a visible name is that of a variable of the table, and of the sort of its kind
pub record IsVariable (vars : List VarEntry) (e : Entry) : Type 0 where
  pub var : VarId
  pub origin : e.visible.origin ≡ origin.Variable var
  pub sort : IsSomeAnd (var_at vars var) (λ entry. e.visible.sort ≡ kept entry.kind)

-- the visible names are those of variables of the table
abbrev pub AreVariables : List VarEntry → List Entry → Type 0
AreVariables vars entries = AllByRecursion (IsVariable vars) entries

-- ---- code

-- and where code may use it, it is no logic variable
pub record IsCodeVariable (vars : List VarEntry) (e : Entry) : Type 0 where
  pub variable : IsVariable vars e
  pub code : IsTrue e.visible.may → IsSomeAnd (var_at vars variable.var) (λ entry. IsSome (code_sort entry.kind))

-- as far as code may use them, the visible names are those of variables that aren't logic variables
abbrev pub AreCodeVariables : List VarEntry → List Entry → Type 0
AreCodeVariables vars entries = AllByRecursion (IsCodeVariable vars) entries
