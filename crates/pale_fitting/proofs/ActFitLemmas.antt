-- Assignments and `free` without a fault fit.
use Rattle.std.proofs.Common.{◌≡◌, ◌<◌, Bool, true, false, not, ◌==◌, List, [], ◌∷◌, length}
use Rattle.std.proofs.Common.{Option, Some, None, is_some, IsSomeAnd, unwrap_or, if◌then◌else◌, refl, sym, ap, ◌∙◌, subst, arith}
use Rattle.std.specs.Option.{option_map_or, option_and_then}
use Rattle.pale_text.specs.declared.place.Pos.{Pos}
use Rattle.pale_syntax.specs.declared.tree.names.Name.{Name}
use Rattle.pale_syntax.specs.declared.tree.names.Path.{Path}
use Rattle.pale_syntax.specs.declared.tree.names.Term as source
use Rattle.pale_syntax.specs.declared.tree.condition.Condition.{Condition}
use Rattle.pale_syntax.specs.declared.tree.statement.Value.{Value}
use Rattle.pale_syntax.specs.declared.tree.statement.Value.TheVariants as value
use Rattle.store_core.specs.declared.ids.TypeId.{TypeId}
use Rattle.store_core.specs.declared.ids.FieldId.{FieldId}
use Rattle.store_core.specs.declared.ids.VariantId.{VariantId}
use Rattle.store_core.specs.declared.kind.FieldKind.{FieldKind}
use Rattle.store_core.specs.declared.kind.FieldKind.TheVariants as field
use Rattle.store_core.specs.declared.kind.VarKind.{VarKind}
use Rattle.store_core.specs.declared.kind.VarKind.TheVariants as var
use Rattle.store_core.specs.Tables.{TypeEntry, FieldEntry, VarEntry, KnowsVariant, var_at, field_at, type_at, count_of_variants}
use Rattle.store_logic.specs.declared.path.Operand.TheVariants as operand
use Rattle.store_logic.specs.Sorts as logic
use Rattle.store_logic.specs.FitsCode.{code_sort, OperandFits, RhsFits, HoldsCell, ActFits}
use Rattle.pale_tables.specs.Faults.{need, ◌>>◌}
use Rattle.pale_tables.proofs.KnownRoutes.{both, needed}
use Rattle.pale_text.specs.declared.refusal.RefusalKind.TheVariants as kind
use Rattle.pale_terms.specs.declared.sort.Sort.{Sort}
use Rattle.pale_terms.specs.declared.sort.Sort.TheVariants as sort
use Rattle.pale_terms.specs.declared.terms.TypedTerm.{TypedTerm}
use Rattle.pale_terms.specs.declared.terms.TypedTerm.TheVariants as typed
use Rattle.pale_terms.specs.Sorts.{held, is_cell, is_set, are_of_one_type}
use Rattle.pale_terms.specs.Visibles.{Entry}
use Rattle.pale_terms.specs.Scopes.{meaning_of, base_fault}
use Rattle.pale_terms.specs.Terms.{sort_behind, typed_field, sort_along, typed_path, typed_term, path_fault, term_fault}
use Rattle.pale_acts.specs.Operands.{var_in, operand_in}
use Rattle.pale_acts.specs.Assignments.{variant_named, variant_fault, variant_of, type_of, new_fault, new_of, term_alone, is_value_for}
use Rattle.pale_acts.specs.Assignments.{cell_fault, cell_of, value_fault, value_of, assignment_fault, assignment_of, free_fault, free_of}
use Rattle.pale_fitting.specs.Standing.{sort_in, AreCodeVariables}
use Rattle.pale_fitting.proofs.TermFitLemmas.{and-parts, cell-sort, one-cell-type, IsVariantOf, variant-under}
use Rattle.pale_fitting.proofs.CodeFitLemmas.{meaning-code, path-fits, IsTyped, term-typed, at-sort, condition-fits}

-- ---- what stands at a path is no set

behind-no-set : (types : List TypeEntry) (f : FieldId) → is_set (sort_behind types f) ≡ false
unfolding sort_behind
behind-no-set types f = by (field_at types f)
  where
    held-no-set : (k : FieldKind) → is_set (held k) ≡ false
    held-no-set field.Bool = refl
    held-no-set (field.Data target) = refl
    held-no-set (field.Pointer target along) = refl

    by : (o : Option FieldEntry) → is_set (option_map_or (λ (entry : FieldEntry). held entry.kind) o sort.Truth) ≡ false
    by None = refl
    by (Some entry) = held-no-set entry.kind

along-no-set : (types : List TypeEntry) (fields : List Name) (from : Sort) → is_set from ≡ false → is_set (sort_along types from fields) ≡ false
along-no-set types [] from none = none
along-no-set types (f ∷ fields) from none =
    along-no-set types fields (sort_behind types (typed_field types from f)) (behind-no-set types (typed_field types from f))

not-true : (b : Bool) → not b ≡ true → b ≡ false
not-true true is = absurd cc
not-true false is = refl

base-no-set : (entries : List Entry) (x : Name) → base_fault entries x ≡ None → is_set (meaning_of entries x).sort ≡ false
unfolding base_fault
base-no-set entries x none = not-true _ (and-parts _ _ (needed _ _ _ (both _ _ none).1)).1

path-no-set : (types : List TypeEntry) (entries : List Entry) (p : Path) → path_fault types entries p ≡ None → is_set (typed_path types entries p).sort ≡ false
unfolding path_fault typed_path
path-no-set types entries p none = along-no-set types p.fields (meaning_of entries p.base).sort (base-no-set entries p.base (both _ _ (both _ _ none).1).0)

-- ---- new cells

-- the variant without a name is there
unnamed-known : (types : List TypeEntry) (ty : TypeId) (otherwise : VariantId) → is_some (variant_named types ty None) ≡ true →
    IsVariantOf types (Some ty) (unwrap_or (variant_named types ty None) otherwise)
unnamed-known types ty otherwise is = by (type_at types ty) refl is
  where
    one : (t : TypeEntry) → type_at types ty ≡ Some t → (b : Bool) → (length t.variants == 0) ≡ b →
        is_some (if b then (let v : VariantId = record { ty = ty; index = 0 } in Some v) else None) ≡ true →
        IsVariantOf types (Some ty) (unwrap_or (if b then Some (record { ty = ty; index = 0 }) else None) otherwise)
    one t at false none is = absurd cc
    one t at true none is =
        let count : 1 ≡ count_of_variants t = sym (ap (λ b. if b then 1 else length t.variants) none) in
        let low : 0 < count_of_variants t = omega arith in
        record { of = refl; known = subst (λ (o : Option TypeEntry). 0 < option_map_or count_of_variants o 0) (sym at) low }

    by : (o : Option TypeEntry) → type_at types ty ≡ o →
        is_some (option_and_then (λ (t : TypeEntry). if length t.variants == 0 then (let v : VariantId = record { ty = ty; index = 0 } in Some v) else None)
        o) ≡ true →
        IsVariantOf types (Some ty)
        (unwrap_or (option_and_then (λ (t : TypeEntry). if length t.variants == 0 then Some (record { ty = ty; index = 0 }) else None) o) otherwise)
    by None at is = absurd cc
    by (Some t) at is = one t at (length t.variants == 0) refl is

variant-there : (types : List TypeEntry) (ty : TypeId) (name : Name) (v : Option Name) → variant_fault types ty name v ≡ None →
    IsVariantOf types (Some ty) (variant_of types ty v)
unfolding variant_fault variant_of
variant-there types ty name None none = unnamed-known types ty (record { ty = record { 0 = 0 }; index = 0 }) (needed _ _ _ none)
variant-there types ty name (Some v) none = variant-under types (Some ty) v.bytes (record { ty = record { 0 = 0 }; index = 0 }) (needed _ _ _ none)

module _ (types : List TypeEntry) (vars : List VarEntry) (entries : List Entry) (all : AreCodeVariables vars entries) where
  new-fits : (of : Sort) (word : Pos) (ty : Name) (v : Option Name) → new_fault types of word ty v ≡ None →
      KnowsVariant types (new_of types ty v) × (sort_in of ≡ logic.Cell (new_of types ty v).ty)
  unfolding new_fault new_of
  new-fits of word ty v none =
      let first = both _ _ none in
      let second = both _ _ first.1 in
      let third = both _ _ second.1 in
      let c = cell-sort of (needed _ _ _ first.0) in
      let same : c.ty ≡ type_of types ty = one-cell-type of (sort.Cell (type_of types ty)) c.ty (type_of types ty) c.is refl (needed _ _ _ third.0) in
      let is = variant-there types (type_of types ty) ty v third.1 in
      let own : type_of types ty ≡ (variant_of types (type_of types ty) v).ty = some-same is.of in
      (is.known, ap sort_in c.is ∙ ap logic.Cell (same ∙ own))
    where
      some-same : {t u : TypeId} → Some t ≡ Some u → t ≡ u
      some-same e = cc

  -- ---- what a place of cells gets

  value-is : (ty : TypeId) (t : TypedTerm) → IsTyped types vars entries all t → is_value_for (sort.Cell ty) t ≡ true →
      OperandFits types vars (operand_in t) (logic.Cell ty)
  value-is ty typed.Null fits is = tt
  value-is ty (typed.Path p) fits is =
      let parts = and-parts (is_cell p.sort) (are_of_one_type (sort.Cell ty) p.sort) is in
      let c = cell-sort p.sort parts.0 in
      let same : ty ≡ c.ty = one-cell-type (sort.Cell ty) p.sort ty c.ty refl c.is parts.1 in
      at-sort types vars entries all p (sort.Cell ty) (c.is ∙ ap sort.Cell (sym same)) fits

  cell-fits : (ty : TypeId) (first : Pos) (c : Condition) → cell_fault types entries (sort.Cell ty) first c ≡ None →
      OperandFits types vars (cell_of types entries c) (logic.Cell ty)
  unfolding cell_fault cell_of
  cell-fits ty first c none = by (term_alone c) none
    where
      by : (o : Option source.Term) →
          option_map_or (λ (t : source.Term). term_fault types entries t >> need (is_value_for (sort.Cell ty) (typed_term types entries t)) kind.Type first) o
          (need false kind.Type first) ≡ None →
          OperandFits types vars (option_map_or (λ (t : source.Term). operand_in (typed_term types entries t)) o operand.Null) (logic.Cell ty)
      by None none = absurd cc
      by (Some t) none =
          let parts = both _ _ none in
          value-is ty (typed_term types entries t) (term-typed types vars entries all t parts.0) (needed _ _ _ parts.1)

  value-fits : (of : Sort) (x : Value) → is_set of ≡ false → value_fault types entries of x ≡ None →
      RhsFits types vars (value_of types entries of x) (sort_in of)
  unfolding value_fault value_of
  value-fits of (value.New word ty v) none-set none = new-fits of word ty v none
  value-fits sort.Truth (value.Condition first c) none-set none = (condition-fits types vars entries all c none, refl)
  value-fits (sort.Cell ty) (value.Condition first c) none-set none = (tt, cell-fits ty first c none)
  value-fits (sort.Set ty) (value.Condition first c) none-set none = absurd cc

  pub assignment-fits : (p : Path) (x : Value) → assignment_fault types entries p x ≡ None → ActFits types vars (assignment_of types entries p x)
  unfolding assignment_fault assignment_of
  assignment-fits p x none =
      let parts = both _ _ none in
      let of = (typed_path types entries p).sort in
      (sort_in of, path-fits types vars entries all p parts.0, value-fits of x (path-no-set types entries p parts.0) parts.1)

  -- ---- `free`

  holds-cell : (k : VarKind) (ty : TypeId) → code_sort k ≡ Some (logic.Cell ty) → HoldsCell k
  holds-cell var.Bool ty is = absurd cc
  holds-cell (var.Data target) ty is = tt
  holds-cell (var.Pointer target) ty is = tt
  holds-cell (var.LogicSet target) ty is = absurd cc
  holds-cell var.LogicBool ty is = absurd cc

  freed : (o : Option VarEntry) (ty : TypeId) → option_and_then (λ (entry : VarEntry). code_sort entry.kind) o ≡ Some (logic.Cell ty) →
      IsSomeAnd o (λ entry. HoldsCell entry.kind)
  freed None ty is = absurd cc
  freed (Some entry) ty is = holds-cell entry.kind ty is

  pub free-fits : (x : Name) → free_fault entries x ≡ None → ActFits types vars (free_of entries x)
  unfolding free_fault free_of
  free-fits x none =
      let parts = and-parts _ _ (needed _ _ _ (both _ _ none).1) in
      let c = cell-sort (meaning_of entries x).sort parts.1 in
      freed (var_at vars (var_in (meaning_of entries x).base)) c.ty (meaning-code vars entries all x parts.0 ∙ ap (λ s. Some (sort_in s)) c.is)
