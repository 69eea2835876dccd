-- A `keep` names what its call doesn't touch.
use Rattle.std.proofs.Common.{◌≡◌, ◌≢◌, ℕ, Bool, true, false, cond, List, [], ◌∷◌, ◌++◌, map, flat_map, slice_get}
use Rattle.std.proofs.Common.{Option, Some, None, is_none, IsSomeAnd, refl, sym, ap, ◌∙◌, subst, if◌then◌else◌}
use Rattle.std.specs.List.{AllByRecursion, Contains}
use Rattle.std.specs.Option.{option_map_or}
use Rattle.std.specs.Str.{bytes_eq}
use Rattle.std.proofs.lemmas.Cmp.{nat_list_eq_equiv}
use Rattle.std.proofs.lemmas.List.Elements.{All-from_recursion, All-contains}
use Rattle.pale_syntax.specs.declared.tree.names.Name.{Name}
use Rattle.pale_syntax.specs.declared.tree.statement.Argument.{Argument}
use Rattle.pale_syntax.specs.declared.tree.statement.Argument.TheVariants as argument
use Rattle.store_core.specs.declared.ids.VarId.{VarId}
use Rattle.store_core.specs.Tables.{VarEntry, var_at, place_of, AreDistinct}
use Rattle.store_core.proofs.Names.{position_none-cons, position_none-from}
use Rattle.pale_terms.specs.declared.scope.Origin.TheVariants as origin
use Rattle.pale_terms.specs.Visibles.{Entry}
use Rattle.pale_terms.specs.Scopes.{visible_names, with_may, allowed}
use Rattle.pale_calls.specs.declared.actual.Actual.TheVariants as actual
use Rattle.pale_calls.specs.Classes.{class_of, holds_cell}
use Rattle.pale_calls.specs.Calls as calls
use Rattle.pale_calls.specs.Calls.{cell_name, allowed_each, actual_of}
use Rattle.pale_typed.specs.Variables.{kind_at, cell_in, cells_in}
use Rattle.pale_sights.proofs.FittingNamesLemmas.{Passes, IsOpen, AreOpen, IsPassed}
use Rattle.pale_sights.proofs.FittingCallsLemmas.{Stands, stands-kind, named-apart, differs, none-is, none-first, none-second, ArgumentStands}

-- ---- what may be named once names are taken out

-- where it may be named, it isn't called so
abbrev IsNotCalled : List ℕ → Entry → Type 0
IsNotCalled name e = e.visible.may ≡ true → bytes_eq e.name name ≡ false

not-called-one : (name taken : List ℕ) (scope : List Entry) → AllByRecursion (IsNotCalled name) scope →
    AllByRecursion (IsNotCalled name) (allowed taken false scope)
not-called-one name taken [] all = tt
not-called-one name taken (e ∷ scope) all = by (not-called-one name taken scope all.1) (bytes_eq taken e.name)
  where
    by : AllByRecursion (IsNotCalled name) (allowed taken false scope) → (b : Bool) →
        AllByRecursion (IsNotCalled name) (cond b (with_may false e ∷ scope) (e ∷ allowed taken false scope))
    by rest true = (λ may. absurd cc, all.1)
    by rest false = (all.0, rest)

not-called-each : (name : List ℕ) (scope : List Entry) (taken : List (List ℕ)) → AllByRecursion (IsNotCalled name) scope →
    AllByRecursion (IsNotCalled name) (allowed_each false scope taken)
not-called-each name scope [] all = all
not-called-each name scope (first ∷ taken) all = not-called-each name (allowed first false scope) taken (not-called-one name first scope all)

none-called : (name key : List ℕ) (scope : List Entry) → bytes_eq name key ≡ true → place_of key (visible_names scope) ≡ None →
    AllByRecursion (IsNotCalled name) scope
none-called name key [] is none = tt
none-called name key (e ∷ scope) is none =
    let parts = position_none-cons (bytes_eq key) e.name (visible_names scope) none in
    (λ may. nat_list_eq_equiv.symm e.name name ∙ nat_list_eq_equiv.congr name key e.name is ∙ parts.0, none-called name key scope is parts.1)

taken-one : (name : List ℕ) (scope : List Entry) → AreDistinct (visible_names scope) → AllByRecursion (IsNotCalled name) (allowed name false scope)
taken-one name [] distinct = tt
taken-one name (e ∷ scope) distinct = by (taken-one name scope distinct.1) (bytes_eq name e.name) refl
  where
    by : AllByRecursion (IsNotCalled name) (allowed name false scope) → (b : Bool) → bytes_eq name e.name ≡ b →
        AllByRecursion (IsNotCalled name) (cond b (with_may false e ∷ scope) (e ∷ allowed name false scope))
    by rest true is = (λ may. absurd cc, none-called name e.name scope is distinct.0)
    by rest false is = (λ may. nat_list_eq_equiv.symm e.name name ∙ is, rest)

same-names : (name : List ℕ) (scope : List Entry) → visible_names (allowed name false scope) ≡ visible_names scope
same-names name [] = refl
same-names name (e ∷ scope) = by (same-names name scope) (bytes_eq name e.name)
  where
    by : visible_names (allowed name false scope) ≡ visible_names scope → (b : Bool) →
        visible_names (cond b (with_may false e ∷ scope) (e ∷ allowed name false scope)) ≡ visible_names (e ∷ scope)
    by rest true = refl
    by rest false = ap (λ names. e.name ∷ names) rest

-- where it may be named, it is none of these
abbrev pub IsNone : List (List ℕ) → Entry → Type 0
IsNone names e = e.visible.may ≡ true → place_of e.name names ≡ None

both-none : (name : List ℕ) (names : List (List ℕ)) (entries : List Entry) → AllByRecursion (IsNotCalled name) entries →
    AllByRecursion (IsNone names) entries → AllByRecursion (IsNone (name ∷ names)) entries
both-none name names [] first rest = tt
both-none name names (e ∷ entries) first rest =
    (λ may. position_none-from (bytes_eq e.name) name names (first.0 may) (rest.0 may), both-none name names entries first.1 rest.1)

any-none : (entries : List Entry) → AllByRecursion (IsNone []) entries
any-none [] = tt
any-none (e ∷ entries) = (λ may. refl, any-none entries)

pub taken-each : (scope : List Entry) (names : List (List ℕ)) → AreDistinct (visible_names scope) →
    AllByRecursion (IsNone names) (allowed_each false scope names)
taken-each scope [] distinct = any-none scope
taken-each scope (name ∷ names) distinct =
    both-none name names (allowed_each false (allowed name false scope) names)
    (not-called-each name (allowed name false scope) names (taken-one name scope distinct))
    (taken-each (allowed name false scope) names (subst AreDistinct (sym (same-names name scope)) distinct))

-- ---- variables under their names

-- a variable of the table under its name
pub record IsNamedVariable (vars : List VarEntry) (e : Entry) : Type 0 where
  pub var : VarId
  pub origin : e.visible.origin ≡ origin.Variable var
  pub name : IsSomeAnd (var_at vars var) (λ entry. entry.name ≡ e.name)

module _ (vars : List VarEntry) where
  allow-named : (name : List ℕ) (may : Bool) (scope : List Entry) → AllByRecursion (IsNamedVariable vars) scope →
      AllByRecursion (IsNamedVariable vars) (allowed name may scope)
  allow-named name may [] all = tt
  allow-named name may (e ∷ scope) all = by (allow-named name may scope all.1) (bytes_eq name e.name)
    where
      by : AllByRecursion (IsNamedVariable vars) (allowed name may scope) → (b : Bool) →
          AllByRecursion (IsNamedVariable vars) (cond b (with_may may e ∷ scope) (e ∷ allowed name may scope))
      by rest true = (record { var = all.0.var; origin = all.0.origin; name = all.0.name }, all.1)
      by rest false = (all.0, rest)

  pub allow-each : (may : Bool) (scope : List Entry) (names : List (List ℕ)) → AllByRecursion (IsNamedVariable vars) scope →
      AllByRecursion (IsNamedVariable vars) (allowed_each may scope names)
  allow-each may scope [] all = all
  allow-each may scope (name ∷ names) all = allow-each may (allowed name may scope) names (allow-named name may scope all)

  -- a variable that has none of these names
  abbrev pub has_none : List (List ℕ) → ℕ → Bool
  has_none names k = option_map_or (λ e. is_none (place_of e.name names)) (slice_get vars k) false

  none-open : (names : List (List ℕ)) (e : Entry) → IsNamedVariable vars e → IsNone names e → IsOpen (has_none names) e
  none-open names e is none may = subst (Passes (has_none names)) (sym is.origin) (by (var_at vars is.var) is.name)
    where
      by : (o : Option VarEntry) → IsSomeAnd o (λ entry. entry.name ≡ e.name) →
          option_map_or (λ (d : VarEntry). is_none (place_of d.name names)) o false ≡ true
      by None named = absurd named
      by (Some d) named = ap (λ name. is_none (place_of name names)) named ∙ ap is_none (none may)

  pub nones-open : (names : List (List ℕ)) (entries : List Entry) → AllByRecursion (IsNamedVariable vars) entries → AllByRecursion (IsNone names) entries →
      AreOpen (has_none names) entries
  nones-open names [] all none = tt
  nones-open names (e ∷ entries) all none = (none-open names e all.0 none.0, nones-open names entries all.1 none.1)

  -- ---- what a call touches

  module _ (v : VarId) (e : VarEntry) (at : var_at vars v ≡ Some e) where
    results-apart : (xs : List Name) → AllByRecursion (Stands vars) xs → place_of e.name (map (λ x. x.bytes) xs) ≡ None →
        AllByRecursion (λ u. u ≢ v) (map (calls.variable_of vars) xs)
    results-apart [] all none = tt
    results-apart (x ∷ xs) all none = (
      λ same. named-apart vars x v e all.0 at (differs e.name x.bytes (none-first e.name (x.bytes ∷ []) (map (λ (y : Name). y.bytes) xs) none)) (sym same),
      results-apart xs all.1 (none-second e.name (x.bytes ∷ []) (map (λ (y : Name). y.bytes) xs) none),
    )

    -- where a name stands before names that aren't that of the variable
    name-apart : (x : Name) (names : List (List ℕ)) (more : List VarId) → Stands vars x →
        place_of e.name ((if holds_cell (class_of (calls.kind_of vars x)) then x.bytes ∷ [] else []) ++ names) ≡ None →
        (place_of e.name names ≡ None → AllByRecursion (λ u. u ≢ v) more) →
        AllByRecursion (λ u. u ≢ v) (cell_in vars (actual.Var (calls.variable_of vars x)) ++ more)
    name-apart x names more s none rest = by (holds_cell (class_of (calls.kind_of vars x))) refl none
      where
        same : option_map_or (λ k. holds_cell (class_of k)) (kind_at vars (calls.variable_of vars x)) false ≡ holds_cell (class_of (calls.kind_of vars x))
        same = ap (λ o. option_map_or (λ k. holds_cell (class_of k)) o false) (stands-kind vars x s) ∙ ap (λ k. holds_cell (class_of k)) (sym s.kind)

        by : (b : Bool) → holds_cell (class_of (calls.kind_of vars x)) ≡ b → place_of e.name ((if b then x.bytes ∷ [] else []) ++ names) ≡ None →
            AllByRecursion (λ u. u ≢ v) ((if option_map_or (λ k. holds_cell (class_of k)) (kind_at vars (calls.variable_of vars x)) false
            then calls.variable_of vars x ∷ [] else []) ++ more)
        by true is left =
            subst (λ (c : Bool). AllByRecursion (λ u. u ≢ v) ((if c then calls.variable_of vars x ∷ [] else []) ++ more)) (sym (same ∙ is)) (
              λ equal. named-apart vars x v e s at (differs e.name x.bytes (none-first e.name (x.bytes ∷ []) names left)) (sym equal),
              rest (none-second e.name (x.bytes ∷ []) names left),
            )
        by false is left =
            subst (λ (c : Bool). AllByRecursion (λ u. u ≢ v) ((if c then calls.variable_of vars x ∷ [] else []) ++ more)) (sym (same ∙ is))
            (rest left)

    cells-apart : (xs : List Argument) → AllByRecursion (ArgumentStands vars) xs → place_of e.name (flat_map (cell_name vars) xs) ≡ None →
        AllByRecursion (λ u. u ≢ v) (cells_in vars (map (actual_of vars) xs))
    cells-apart [] all none = tt
    cells-apart (argument.Name x ∷ xs) all none = name-apart x (flat_map (cell_name vars) xs) (cells_in vars (map (actual_of vars) xs)) all.0 none
        (cells-apart xs all.1)
    cells-apart (argument.Null place ∷ xs) all none = cells-apart xs all.1 none
    cells-apart (argument.Truth place truth ∷ xs) all none = cells-apart xs all.1 none

  -- a variable that has none of the names that a call touches is untouched
  pub record IsApart (results cells : List VarId) (v : VarId) : Type 0 where
    pub no_result : Contains results v → ⊥
    pub no_cell : Contains cells v → ⊥

  abbrev names_touched : List Name → List Argument → List (List ℕ)
  names_touched results arguments = map (λ x. x.bytes) results ++ flat_map (cell_name vars) arguments

  pub untouched : (results : List Name) (arguments : List Argument) → AllByRecursion (Stands vars) results → AllByRecursion (ArgumentStands vars) arguments →
      (v : VarId) → IsPassed vars (has_none (names_touched results arguments)) v →
      IsApart (map (calls.variable_of vars) results) (cells_in vars (map (actual_of vars) arguments)) v
  untouched results arguments stand handed v passed = by (var_at vars v) refl passed.passes
    where
      by : (o : Option VarEntry) → var_at vars v ≡ o →
          option_map_or (λ (e : VarEntry). is_none (place_of e.name (names_touched results arguments))) o false ≡ true →
          IsApart (map (calls.variable_of vars) results) (cells_in vars (map (actual_of vars) arguments)) v
      by None at is = absurd cc
      by (Some e) at is =
          let none = none-is (place_of e.name (names_touched results arguments)) is in
          let result_list = map (calls.variable_of vars) results in
          let cell_list = cells_in vars (map (actual_of vars) arguments) in
          record {
            no_result = λ among.
                All-contains (λ u. u ≢ v) result_list v
                (All-from_recursion (λ u. u ≢ v) result_list
                (results-apart v e at results stand
                (none-first e.name (map (λ (x : Name). x.bytes) results) (flat_map (cell_name vars) arguments) none))) among refl;
            no_cell = λ among.
                All-contains (λ u. u ≢ v) cell_list v
                (All-from_recursion (λ u. u ≢ v) cell_list
                (cells-apart v e at arguments handed
                (none-second e.name (map (λ (x : Name). x.bytes) results) (flat_map (cell_name vars) arguments) none))) among refl;
          }
