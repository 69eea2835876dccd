-- Paths, conditions and acts of code without a fault fit.
use Rattle.std.proofs.Common.{◌≡◌, ℕ, zero, suc, ◌-◌, true, ◌&&◌, List, [], ◌∷◌, length, map, slice_get}
use Rattle.std.proofs.Common.{Option, Some, None, IsSome, IsSomeAnd, refl, sym, ap, ◌∙◌, subst}
use Rattle.std.specs.List.{AllByRecursion}
use Rattle.std.specs.Option.{option_and_then}
use mathlib.Core.Path.{transport}
use Rattle.pale_text.specs.declared.place.Pos.{Pos}
use Rattle.pale_syntax.specs.declared.tree.names.Name.{Name}
use Rattle.pale_syntax.specs.declared.tree.names.Path.{Path}
use Rattle.pale_syntax.specs.declared.tree.names.Term as source
use Rattle.pale_syntax.specs.declared.tree.names.Term.TheVariants as source_term
use Rattle.pale_syntax.specs.declared.tree.condition.Condition.{Condition}
use Rattle.pale_syntax.specs.declared.tree.condition.Condition.TheOpen.{Condition-F}
use Rattle.pale_syntax.specs.declared.tree.condition.Condition.TheFolds.{map-Condition, ind-Condition}
use Rattle.store_core.specs.declared.ids.TypeId.{TypeId}
use Rattle.store_core.specs.declared.ids.VariantId.{VariantId}
use Rattle.store_core.specs.declared.kind.VarKind.{VarKind}
use Rattle.store_core.specs.declared.kind.VarKind.TheVariants as var
use Rattle.store_core.specs.Tables.{TypeEntry, VarEntry, var_at}
use Rattle.store_logic.specs.declared.path.Operand.{Operand}
use Rattle.store_logic.specs.declared.cond.Cond.{Cond, roll-Cond}
use Rattle.store_logic.specs.declared.cond.Cond.TheVariants as test
use Rattle.store_logic.specs.declared.cond.Cond.TheOpen.{Cond-F}
use Rattle.store_logic.specs.declared.cond.Cond.TheFolds.{rec-roll-Cond, map-Cond}
use Rattle.store_logic.specs.Sorts as logic
use Rattle.store_logic.specs.FitsCode.{code_sort, PathFits, OperandFits, SameCondFits, CondFitsNode, CondFits}
use Rattle.pale_tables.specs.Faults.{Fault, first_of}
use Rattle.pale_tables.proofs.KnownRoutes.{both, needed}
use Rattle.pale_terms.specs.declared.sort.Sort.{Sort}
use Rattle.pale_terms.specs.declared.sort.Sort.TheVariants as sort
use Rattle.pale_terms.specs.declared.scope.Meaning.{Meaning}
use Rattle.pale_terms.specs.declared.terms.TypedPath.{TypedPath}
use Rattle.pale_terms.specs.declared.terms.TypedTerm.{TypedTerm}
use Rattle.pale_terms.specs.declared.terms.TypedTerm.TheVariants as typed
use Rattle.pale_terms.specs.Sorts.{kept, is_cell, are_of_one_type}
use Rattle.pale_terms.specs.Visibles.{Entry}
use Rattle.pale_terms.specs.Scopes.{base_of, meaning_of}
use Rattle.pale_terms.specs.Terms.{typed_fields, typed_path, typed_term, is_reference, cell_type, are_alike, variant_test}
use Rattle.pale_terms.specs.Terms.{path_fault, term_fault, reference_fault, compared_fault, cell_fault, variant_test_fault}
use Rattle.pale_acts.specs.declared.conditions.Junction.{Junction}
use Rattle.pale_acts.specs.declared.conditions.Junction.TheVariants as junction
use Rattle.pale_acts.specs.Operands.{var_in, path_in, operand_in}
use Rattle.pale_acts.specs.Conditions as conditions
use Rattle.pale_acts.specs.Conditions.{is_truth_path, truth_in, same_of, is_in, is_of, joined, chained, negated, typing_rules, typed_condition}
use Rattle.pale_acts.specs.Conditions.{fault_rules, condition_fault}
use Rattle.pale_acts.proofs.ConditionLemmas.{fault_form, typed_form}
use Rattle.pale_fitting.specs.Standing.{sort_in, IsCodeVariable, AreCodeVariables}
use Rattle.pale_fitting.proofs.StandingLemmas.{meaning-from}
use Rattle.pale_fitting.proofs.TermFitLemmas.{and-parts, truth-sort, cell-sort, cell_of-sort, one-cell-type, fields-along, base-may, IsVariantOf, variant-under}

-- ---- names

code-in : (k : VarKind) → IsSome (code_sort k) → code_sort k ≡ Some (sort_in (kept k))
code-in var.Bool is = refl
code-in (var.Data target) is = refl
code-in (var.Pointer target) is = refl
code-in (var.LogicSet target) is = absurd cc
code-in var.LogicBool is = absurd cc

module _ (vars : List VarEntry) where
  -- what a name means is a variable of code of its sort
  abbrev pub IsOfCode : Meaning → Type 0
  IsOfCode m = option_and_then (λ (entry : VarEntry). code_sort entry.kind) (var_at vars (var_in m.base)) ≡ Some (sort_in m.sort)

  entry-code : (e : Entry) (after : ℕ) → IsCodeVariable vars e → e.visible.may ≡ true →
      option_and_then (λ (entry : VarEntry). code_sort entry.kind) (var_at vars (var_in (base_of e.visible.origin after))) ≡ Some (sort_in e.visible.sort)
  entry-code e after is may =
      subst (λ o. option_and_then (λ (entry : VarEntry). code_sort entry.kind) (var_at vars (var_in (base_of o after))) ≡ Some (sort_in e.visible.sort))
      (sym is.variable.origin) (by (var_at vars is.variable.var) is.variable.sort (is.code may))
    where
      by : (o : Option VarEntry) → IsSomeAnd o (λ entry. e.visible.sort ≡ kept entry.kind) → IsSomeAnd o (λ entry. IsSome (code_sort entry.kind)) →
          option_and_then (λ (entry : VarEntry). code_sort entry.kind) o ≡ Some (sort_in e.visible.sort)
      by None so code = absurd so
      by (Some entry) so code = code-in entry.kind code ∙ ap (λ s. Some (sort_in s)) (sym so)

  at-entry : (entries : List Entry) → AreCodeVariables vars entries → (place : ℕ) (e : Entry) → slice_get entries place ≡ Some e → IsCodeVariable vars e
  at-entry [] all place e at = absurd cc
  at-entry (x ∷ entries) all zero e at = let same : x ≡ e = cc in subst (IsCodeVariable vars) same all.0
  at-entry (x ∷ entries) all (suc place) e at = at-entry entries all.1 place e at

  pub meaning-code : (entries : List Entry) → AreCodeVariables vars entries → (x : Name) → (meaning_of entries x).may ≡ true → IsOfCode (meaning_of entries x)
  meaning-code entries all x =
      meaning-from (λ m. m.may ≡ true → IsOfCode m) entries x
      (λ place e at may. entry-code e (length entries - 1 - place) (at-entry entries all place e at) may) (λ may. absurd cc)

-- ---- conditions, form by form

module _ (types : List TypeEntry) (vars : List VarEntry) where
  natural : (Part : Type 0) (whole : Part → Cond) (fits : Cond → Type 0) (x : Cond-F Part) →
      CondFitsNode types vars Part whole (λ p. fits (whole p)) x ≡ CondFitsNode types vars Cond (λ c. c) fits (map-Cond Part Cond whole x)
  natural Part whole fits Cond-F.True = refl
  natural Part whole fits Cond-F.False = refl
  natural Part whole fits (Cond-F.Bool p) = refl
  natural Part whole fits (Cond-F.Is p v) = refl
  natural Part whole fits (Cond-F.Same p q) = refl
  natural Part whole fits (Cond-F.Not c) = refl
  natural Part whole fits (Cond-F.And c d) = refl
  natural Part whole fits (Cond-F.Or c d) = refl

  -- a condition of this form fits where its parts do
  by-form : (c : Cond) (x : Cond-F Cond) → roll-Cond x ≡ c → CondFitsNode types vars Cond (λ d. d) (CondFits types vars) x → CondFits types vars c
  by-form c x e = transport (λ i. sym (ap (CondFits types vars) (sym e) ∙ rec-roll-Cond (Type 0) (CondFitsNode types vars) natural x) i)

  False-fits : CondFits types vars test.False
  False-fits = by-form test.False Cond-F.False test.rolls-False tt

  Not-fits : (c : Cond) → CondFits types vars c → CondFits types vars (test.Not c)
  Not-fits c fits = by-form (test.Not c) (Cond-F.Not c) (test.rolls-Not c) fits

  joined-fits : (j : Junction) (c d : Cond) → CondFits types vars c → CondFits types vars d → CondFits types vars (joined j c d)
  joined-fits junction.And c d first second = by-form (test.And c d) (Cond-F.And c d) (test.rolls-And c d) (first, second)
  joined-fits junction.Or c d first second = by-form (test.Or c d) (Cond-F.Or c d) (test.rolls-Or c d) (first, second)

  chained-fits : (j : Junction) (c : Cond) (others : List Cond) → CondFits types vars c → AllByRecursion (CondFits types vars) others →
      CondFits types vars (chained j c others)
  chained-fits j c [] first all = first
  chained-fits j c (d ∷ others) first all = chained-fits j (joined j c d) others (joined-fits j c d first all.0) all.1

  -- ---- paths and terms

  module _ (entries : List Entry) (all : AreCodeVariables vars entries) where
    pub path-fits : (p : Path) → path_fault types entries p ≡ None →
        PathFits types vars (path_in (typed_path types entries p)) (sort_in (typed_path types entries p).sort)
    unfolding path_fault typed_path
    path-fits p none =
        let parts = both _ _ (both _ _ none).1 in
        let m = meaning_of entries p.base in
        ap (option_and_then (λ start. logic.sort_along types start (typed_fields types m.sort p.fields)))
        (meaning-code vars entries all p.base (base-may entries p.base parts.0))
        ∙ fields-along types p.fields m.sort parts.1

    -- the term is of its sort
    abbrev pub IsTyped : TypedTerm → Type 0
    IsTyped typed.Null = Unit {0}
    IsTyped (typed.Path p) = PathFits types vars (path_in p) (sort_in p.sort)

    pub term-typed : (t : source.Term) → term_fault types entries t ≡ None → IsTyped (typed_term types entries t)
    unfolding term_fault typed_term
    term-typed (source_term.Null place) none = tt
    term-typed (source_term.Path p) none = path-fits p none

    pub at-sort : (p : TypedPath) (s : Sort) → p.sort ≡ s → PathFits types vars (path_in p) (sort_in p.sort) → PathFits types vars (path_in p) (sort_in s)
    at-sort p s is fits = subst (λ r. PathFits types vars (path_in p) (sort_in r)) is fits

    -- ---- conditions without parts

    truth-path : (t : TypedTerm) → IsTyped t → is_truth_path t ≡ true → CondFits types vars (truth_in t)
    truth-path typed.Null fits is = False-fits
    truth-path (typed.Path p) fits is =
        by-form (test.Bool (path_in p)) (Cond-F.Bool (path_in p)) (test.rolls-Bool (path_in p)) (at-sort p sort.Truth (truth-sort p.sort is) fits)

    truth-of-fits : (t : source.Term) → conditions.truth_fault types entries t ≡ None → CondFits types vars (conditions.truth_of types entries t)
    unfolding conditions.truth_fault conditions.truth_of
    truth-of-fits t none =
        let parts = both _ _ none in truth-path (typed_term types entries t) (term-typed t parts.0) (needed _ _ _ parts.1)

    -- null or a cell
    record IsCells (o : Operand) : Type 0 where
      ty : TypeId
      fits : OperandFits types vars o (logic.Cell ty)

    reference-cells : (t : TypedTerm) → IsTyped t → is_reference t ≡ true → IsCells (operand_in t)
    reference-cells typed.Null fits is = record { ty = record { 0 = 0 }; fits = tt }
    reference-cells (typed.Path p) fits is = let c = cell-sort p.sort is in record { ty = c.ty; fits = at-sort p (sort.Cell c.ty) c.is fits }

    alike-fit : (t u : TypedTerm) → IsTyped t → IsTyped u → are_alike t u ≡ true → SameCondFits types vars (operand_in t) (operand_in u)
    alike-fit typed.Null u left right is = let c = reference-cells u right is in record { ty = c.ty; left = tt; right = c.fits }
    alike-fit (typed.Path p) typed.Null left right is =
        let c = cell-sort p.sort is in record { ty = c.ty; left = at-sort p (sort.Cell c.ty) c.is left; right = tt }
    alike-fit (typed.Path p) (typed.Path q) left right is =
        let parts = and-parts (is_cell p.sort) (is_cell q.sort && are_of_one_type p.sort q.sort) is in
        let more = and-parts (is_cell q.sort) (are_of_one_type p.sort q.sort) parts.1 in
        let c = cell-sort p.sort parts.0 in
        let d = cell-sort q.sort more.0 in
        let same = one-cell-type p.sort q.sort c.ty d.ty c.is d.is more.1 in
        record { ty = d.ty; left = at-sort p (sort.Cell d.ty) (c.is ∙ ap sort.Cell same) left; right = at-sort q (sort.Cell d.ty) d.is right }

    same-of-fits : (t : source.Term) (operator : Pos) (u : source.Term) → compared_fault types entries t operator u ≡ None →
        CondFits types vars (same_of types entries t u)
    unfolding compared_fault reference_fault same_of
    same-of-fits t operator u none =
        let parts = both _ _ none in
        let more = both _ _ parts.1 in
        let left = operand_in (typed_term types entries t) in
        let right = operand_in (typed_term types entries u) in
        by-form (test.Same left right) (Cond-F.Same left right) (test.rolls-Same left right)
        (alike-fit (typed_term types entries t) (typed_term types entries u) (term-typed t (both _ _ parts.0).0) (term-typed u more.0) (needed _ _ _ more.1))

    is-in-fits : (t : TypedTerm) (v : VariantId) → IsTyped t → IsVariantOf types (cell_type t) v → CondFits types vars (is_in t v)
    is-in-fits typed.Null v fits is = False-fits
    is-in-fits (typed.Path p) v fits is =
        by-form (test.Is (path_in p) v) (Cond-F.Is (path_in p) v) (test.rolls-Is (path_in p) v)
        (record { variant = is.known; path = at-sort p (sort.Cell v.ty) (cell_of-sort p.sort v.ty is.of) fits })

    is-of-fits : (t : source.Term) (colon : Pos) (v : Name) → variant_test_fault types entries t colon v ≡ None → CondFits types vars (is_of types entries t v)
    unfolding variant_test_fault cell_fault variant_test is_of
    is-of-fits t colon v none =
        let parts = both _ _ none in
        is-in-fits (typed_term types entries t) _ (term-typed t (both _ _ parts.0).0)
        (variant-under types (cell_type (typed_term types entries t)) v.bytes (record { ty = record { 0 = 0 }; index = 0 }) (needed _ _ _ parts.1))

    -- ---- all forms

    IsFit : Condition → Type 0
    IsFit c = condition_fault types entries c ≡ None → CondFits types vars (typed_condition types entries c)

    each-fits : (others : List ((c : Condition) × IsFit c)) → first_of (λ (f : Fault). f) (map (condition_fault types entries) (map (λ e. e.0) others)) ≡ None →
        AllByRecursion (CondFits types vars) (map (typed_condition types entries) (map (λ e. e.0) others))
    unfolding IsFit
    each-fits [] none = tt
    each-fits (e ∷ others) none = let parts = both _ _ none in (e.1 parts.0, each-fits others parts.1)

    node-fits : (y : Condition-F ((c : Condition) × IsFit c)) →
        fault_rules types entries (map-Condition Condition Fault (condition_fault types entries)
        (map-Condition ((c : Condition) × IsFit c) Condition (λ e. e.0) y)) ≡ None →
        CondFits types vars (typing_rules types entries (map-Condition Condition Cond (typed_condition types entries)
        (map-Condition ((c : Condition) × IsFit c) Condition (λ e. e.0) y)))
    unfolding IsFit
    node-fits (Condition-F.True place) none = by-form test.True Cond-F.True test.rolls-True tt
    node-fits (Condition-F.False place) none = False-fits
    node-fits (Condition-F.Truth t) none = truth-of-fits t none
    node-fits (Condition-F.Same t operator u) none = same-of-fits t operator u none
    node-fits (Condition-F.Differ t operator u) none = Not-fits (same_of types entries t u) (same-of-fits t operator u none)
    node-fits (Condition-F.Is t colon v) none = is-of-fits t colon v none
    node-fits (Condition-F.Not place c) none = Not-fits (typed_condition types entries c.0) (c.1 none)
    node-fits (Condition-F.And first others) none =
        let parts = both _ _ none in chained-fits junction.And (typed_condition types entries first.0) _ (first.1 parts.0) (each-fits others parts.1)
    node-fits (Condition-F.Or first others) none =
        let parts = both _ _ none in chained-fits junction.Or (typed_condition types entries first.0) _ (first.1 parts.0) (each-fits others parts.1)

    pub condition-fits : (c : Condition) → condition_fault types entries c ≡ None → CondFits types vars (typed_condition types entries c)
    unfolding IsFit
    condition-fits = ind-Condition IsFit (λ x y is none.
        subst (CondFits types vars) (sym (typed_form types entries _ x refl))
        (subst (λ z. fault_rules types entries (map-Condition Condition Fault (condition_fault types entries) z) ≡ None →
        CondFits types vars (typing_rules types entries (map-Condition Condition Cond (typed_condition types entries) z))) is (node-fits y)
        (sym (fault_form types entries _ x refl) ∙ none)))
