-- Paths and terms without a fault are of the sort that the rules say.
use Rattle.std.proofs.Common.{◌≡◌, ℕ, zero, suc, ◌<◌, ◌≤◌, Bool, true, false, cond, ◌&&◌, ◌==◌, eqb, List, [], ◌∷◌, length, slice_get}
use Rattle.std.proofs.Common.{Option, Some, None, is_some, unwrap_or, if◌then◌else◌, refl, sym, ap, ◌∙◌, subst, arith}
use Rattle.std.specs.Option.{option_map, option_map_or, option_and_then}
use Rattle.std.proofs.lemmas.List.{length-map}
use Rattle.pale_text.specs.declared.place.Pos.{Pos}
use Rattle.pale_syntax.specs.declared.tree.names.Name.{Name}
use Rattle.pale_syntax.specs.declared.tree.names.Path.{Path}
use Rattle.pale_syntax.specs.declared.tree.names.Term as source
use Rattle.pale_syntax.specs.declared.tree.names.Term.TheVariants as source_term
use Rattle.store_core.specs.declared.ids.TypeId.{TypeId}
use Rattle.store_core.specs.declared.ids.FieldId.{FieldId}
use Rattle.store_core.specs.declared.ids.VariantId.{VariantId}
use Rattle.store_core.specs.declared.kind.FieldKind.{FieldKind}
use Rattle.store_core.specs.declared.kind.FieldKind.TheVariants as field
use Rattle.store_core.specs.Tables.{TypeEntry, FieldEntry, KnowsVariant, place_of, field_at, field_names, fields_of, type_at, variants_of}
use Rattle.store_core.specs.Tables.{count_of_variants, variant_count}
use Rattle.store_logic.specs.declared.term.Term.{Term}
use Rattle.store_logic.specs.Sorts as logic
use Rattle.store_logic.specs.Sorts.{Scope, TermFits, BaseFits, field_sort}
use Rattle.store_logic.specs.Fits.{SameTestFits, VariantTestFits}
use Rattle.pale_tables.proofs.KnownRoutes.{both, needed, position-within}
use Rattle.pale_terms.specs.declared.sort.Sort.{Sort}
use Rattle.pale_terms.specs.declared.sort.Sort.TheVariants as sort
use Rattle.pale_terms.specs.declared.terms.TypedPath.{TypedPath}
use Rattle.pale_terms.specs.declared.terms.TypedTerm.{TypedTerm}
use Rattle.pale_terms.specs.declared.terms.TypedTerm.TheVariants as typed
use Rattle.pale_terms.specs.Sorts.{held, is_truth, is_cell, is_set, cell_of, are_of_one_type}
use Rattle.pale_terms.specs.Visibles.{Entry}
use Rattle.pale_terms.specs.Scopes.{meaning_of, base_fault, set_fault}
use Rattle.pale_terms.specs.Terms.{typed_field, sort_behind, typed_fields, sort_along, typed_path, typed_term, term_at, term_in}
use Rattle.pale_terms.specs.Terms.{is_reference, cell_type, are_alike, variant_under, variant_test, field_fault, fields_fault, path_fault, term_fault}
use Rattle.pale_terms.specs.Terms.{reference_fault, compared_fault, cell_fault, variant_test_fault, set_path_fault}
use Rattle.pale_fitting.specs.Standing.{sort_in, StandFor}
use Rattle.pale_fitting.proofs.StandingLemmas.{meaning-fits}

-- ---- sorts

pub and-parts : (a b : Bool) → (a && b) ≡ true → (a ≡ true) × (b ≡ true)
and-parts true b is = (refl, is)
and-parts false b is = absurd cc

pub same-number : (m n : ℕ) → (m == n) ≡ true → m ≡ n
same-number m n is = grind arith

number-same : (n : ℕ) → (n == n) ≡ true
number-same n = grind arith

type-from : (t u : TypeId) → t.0 ≡ u.0 → t ≡ u
type-from t u same = ap (λ n. let ty : TypeId = record { 0 = n } in ty) same

pub same-type : (t u : TypeId) → (t.0 == u.0) ≡ true → t ≡ u
same-type t u is = type-from t u (same-number t.0 u.0 is)

pub truth-sort : (s : Sort) → is_truth s ≡ true → s ≡ sort.Truth
truth-sort sort.Truth is = refl
truth-sort (sort.Cell ty) is = absurd cc
truth-sort (sort.Set ty) is = absurd cc

-- the sort of cells of a type
pub record IsCellOf (s : Sort) : Type 0 where
  pub ty : TypeId
  pub is : s ≡ sort.Cell ty

pub cell-sort : (s : Sort) → is_cell s ≡ true → IsCellOf s
cell-sort sort.Truth is = absurd cc
cell-sort (sort.Cell ty) is = record { ty = ty; is = refl }
cell-sort (sort.Set ty) is = absurd cc

pub cell_of-sort : (s : Sort) (ty : TypeId) → cell_of s ≡ Some ty → s ≡ sort.Cell ty
cell_of-sort sort.Truth ty is = absurd cc
cell_of-sort (sort.Cell t) ty is = let same : t ≡ ty = cc in ap sort.Cell same
cell_of-sort (sort.Set t) ty is = absurd cc

pub record IsSetOf (s : Sort) : Type 0 where
  pub ty : TypeId
  pub is : s ≡ sort.Set ty

pub set-sort : (s : Sort) → is_set s ≡ true → IsSetOf s
set-sort sort.Truth is = absurd cc
set-sort (sort.Cell ty) is = absurd cc
set-sort (sort.Set ty) is = record { ty = ty; is = refl }

-- cells of one type
pub one-cell-type : (s r : Sort) (t u : TypeId) → s ≡ sort.Cell t → r ≡ sort.Cell u → are_of_one_type s r ≡ true → t ≡ u
one-cell-type s r t u left right is =
    same-type t u (sym (λ i. are_of_one_type (left i) (right i)) ∙ is)

pub one-set-type : (s r : Sort) (t u : TypeId) → s ≡ sort.Set t → r ≡ sort.Set u → are_of_one_type s r ≡ true → t ≡ u
one-set-type s r t u left right is =
    same-type t u (sym (λ i. are_of_one_type (left i) (right i)) ∙ is)

pub one-mixed-type : (s r : Sort) (t u : TypeId) → s ≡ sort.Set t → r ≡ sort.Cell u → are_of_one_type s r ≡ true → t ≡ u
one-mixed-type s r t u left right is =
    same-type t u (sym (λ i. are_of_one_type (left i) (right i)) ∙ is)

-- ---- fields

held-in : (k : FieldKind) → field_sort k ≡ sort_in (held k)
held-in field.Bool = refl
held-in (field.Data target) = refl
held-in (field.Pointer target along) = refl

pub there : {X : Type 0} (xs : List X) (k : ℕ) → k < length xs → is_some (slice_get xs k) ≡ true
there [] k inside = absurd (omega arith)
there (x ∷ xs) zero inside = refl
there (x ∷ xs) (suc k) inside = there xs k (omega arith)

-- the fields go on from a field that is there
goes-on : (types : List TypeEntry) (ty : TypeId) (i : ℕ) (more : List FieldId) (s : logic.Sort) → i < length (fields_of types ty) →
    logic.sort_along types (sort_in (option_map_or (λ (entry : FieldEntry). held entry.kind) (slice_get (fields_of types ty) i) sort.Truth)) more ≡ Some s →
    logic.sort_along types (logic.Cell ty) (record { ty = ty; index = i } ∷ more) ≡ Some s
goes-on types ty i more s inside along =
    ap (λ b. if b then option_and_then (λ (entry : FieldEntry). logic.sort_along types (field_sort entry.kind) more) (slice_get (fields_of types ty) i)
    else None)
    (number-same ty.0)
    ∙ by (slice_get (fields_of types ty) i) (there (fields_of types ty) i inside) along
  where
    by : (o : Option FieldEntry) → is_some o ≡ true →
        logic.sort_along types (sort_in (option_map_or (λ (entry : FieldEntry). held entry.kind) o sort.Truth)) more ≡ Some s →
        option_and_then (λ (entry : FieldEntry). logic.sort_along types (field_sort entry.kind) more) o ≡ Some s
    by None is along = absurd cc
    by (Some entry) is along = ap (λ t. logic.sort_along types t more) (held-in entry.kind) ∙ along

field-step : (types : List TypeEntry) (from : Sort) (f : Name) → field_fault types from f ≡ None → (more : List FieldId) (s : logic.Sort) →
    logic.sort_along types (sort_in (sort_behind types (typed_field types from f))) more ≡ Some s →
    logic.sort_along types (sort_in from) (typed_field types from f ∷ more) ≡ Some s
unfolding field_fault typed_field sort_behind
field-step types sort.Truth f none more s along = absurd cc
field-step types (sort.Cell ty) f none more s along =
    by (place_of f.bytes (field_names (fields_of types ty))) refl (needed _ _ _ none) along
  where
    by : (o : Option ℕ) → place_of f.bytes (field_names (fields_of types ty)) ≡ o →
        is_some (option_map (λ i. let x : FieldId = record { ty = ty; index = i } in x) o) ≡ true →
        logic.sort_along types (sort_in (option_map_or (λ (entry : FieldEntry). held entry.kind)
        (field_at types (unwrap_or (option_map (λ i. record { ty = ty; index = i }) o) (record { ty = record { 0 = 0 }; index = 0 }))) sort.Truth))
        more ≡ Some s →
        logic.sort_along types (logic.Cell ty)
        (unwrap_or (option_map (λ i. record { ty = ty; index = i }) o) (record { ty = record { 0 = 0 }; index = 0 }) ∷ more) ≡ Some s
    by None at is along = absurd cc
    by (Some i) at is along =
        let named : i < length (field_names (fields_of types ty)) = position-within _ (field_names (fields_of types ty)) i at in
        let count = length-map (fields_of types ty) (λ (entry : FieldEntry). entry.name) in
        let inside : i < length (fields_of types ty) = omega arith in
        goes-on types ty i more s inside along
field-step types (sort.Set ty) f none more s along = absurd cc

pub fields-along : (types : List TypeEntry) (fields : List Name) (from : Sort) → fields_fault types from fields ≡ None →
    logic.sort_along types (sort_in from) (typed_fields types from fields) ≡ Some (sort_in (sort_along types from fields))
fields-along types [] from none = refl
fields-along types (f ∷ fields) from none =
    let parts = both _ _ none in
    field-step types from f parts.0 (typed_fields types (sort_behind types (typed_field types from f)) fields)
    (sort_in (sort_along types (sort_behind types (typed_field types from f)) fields))
    (fields-along types fields (sort_behind types (typed_field types from f)) parts.1)

-- ---- names

pub base-may : (entries : List Entry) (x : Name) → base_fault entries x ≡ None → (meaning_of entries x).may ≡ true
unfolding base_fault
base-may entries x none = (and-parts _ _ (needed _ _ _ (both _ _ none).1)).0

-- the name is that of a set
pub record IsNameOfSet (entries : List Entry) (x : Name) : Type 0 where
  pub may : (meaning_of entries x).may ≡ true
  pub ty : TypeId
  pub is : (meaning_of entries x).sort ≡ sort.Set ty

pub set-name : (entries : List Entry) (x : Name) → set_fault entries x ≡ None → IsNameOfSet entries x
unfolding set_fault
set-name entries x none =
    let parts = and-parts _ _ (needed _ _ _ (both _ _ none).1) in
    let set = set-sort (meaning_of entries x).sort parts.1 in
    record { may = parts.0; ty = set.ty; is = set.is }

pub set-path-name : (entries : List Entry) (p : Path) → set_path_fault entries p ≡ None → IsNameOfSet entries p.base
unfolding set_path_fault
set-path-name entries p none = set-name entries p.base (both _ _ (both _ _ none).1).0

-- ---- variants

counted : (n : ℕ) → n ≤ cond (eqb n 0) 1 n
counted n = grind arith

-- a named variant of a type is there
pub variant-known : (types : List TypeEntry) (ty : TypeId) (i : ℕ) → i < length (variants_of types ty) → i < variant_count types ty
variant-known types ty i inside = by (type_at types ty) inside
  where
    by : (o : Option TypeEntry) → i < length (option_map_or (λ (t : TypeEntry). t.variants) o []) → i < option_map_or count_of_variants o 0
    by None inside = inside
    by (Some t) inside = let more = counted (length t.variants) in omega arith

-- a variant of the type of a cell
pub record IsVariantOf (types : List TypeEntry) (ty : Option TypeId) (v : VariantId) : Type 0 where
  pub of : ty ≡ Some v.ty
  pub known : KnowsVariant types v

pub variant-under : (types : List TypeEntry) (ty : Option TypeId) (name : List ℕ) (otherwise : VariantId) → is_some (variant_under types ty name) ≡ true →
    IsVariantOf types ty (unwrap_or (variant_under types ty name) otherwise)
variant-under types None name otherwise is = absurd cc
variant-under types (Some t) name otherwise is = by (place_of name (variants_of types t)) refl is
  where
    by : (o : Option ℕ) → place_of name (variants_of types t) ≡ o → is_some (option_map (λ i. let v : VariantId = record { ty = t; index = i } in v) o) ≡ true →
        IsVariantOf types (Some t) (unwrap_or (option_map (λ i. record { ty = t; index = i }) o) otherwise)
    by None at is = absurd cc
    by (Some i) at is = record { of = refl; known = variant-known types t i (position-within _ (variants_of types t) i at) }

-- ---- paths and terms of assertions

module _ (types : List TypeEntry) (entries : List Entry) (scope : Scope) (stand : StandFor entries scope) where
  pub path-fits : (p : Path) → path_fault types entries p ≡ None →
      TermFits types scope (term_at (typed_path types entries p)) (sort_in (typed_path types entries p).sort)
  unfolding path_fault typed_path
  path-fits p none =
      let parts = both _ _ (both _ _ none).1 in
      let m = meaning_of entries p.base in
      ap (option_and_then (λ start. logic.sort_along types start (typed_fields types m.sort p.fields)))
      (meaning-fits entries scope stand p.base (base-may entries p.base parts.0))
      ∙ fields-along types p.fields m.sort parts.1

  -- the term is of its sort
  abbrev pub IsTyped : TypedTerm → Type 0
  IsTyped typed.Null = Unit {0}
  IsTyped (typed.Path p) = TermFits types scope (term_at p) (sort_in p.sort)

  pub term-typed : (t : source.Term) → term_fault types entries t ≡ None → IsTyped (typed_term types entries t)
  unfolding term_fault typed_term
  term-typed (source_term.Null place) none = tt
  term-typed (source_term.Path p) none = path-fits p none

  -- a term of cells
  pub record IsCells (t : Term) : Type 0 where
    pub ty : TypeId
    pub fits : TermFits types scope t (logic.Cell ty)

  pub at-cell : (p : TypedPath) (ty : TypeId) → p.sort ≡ sort.Cell ty → TermFits types scope (term_at p) (sort_in p.sort) →
      TermFits types scope (term_at p) (logic.Cell ty)
  at-cell p ty is fits = subst (λ s. TermFits types scope (term_at p) (sort_in s)) is fits

  reference-cells : (t : TypedTerm) → IsTyped t → is_reference t ≡ true → IsCells (term_in t)
  reference-cells typed.Null fits is = record { ty = record { 0 = 0 }; fits = tt }
  reference-cells (typed.Path p) fits is = let c = cell-sort p.sort is in record { ty = c.ty; fits = at-cell p c.ty c.is fits }

  pub reference-fits : (t : source.Term) (operator : Pos) → reference_fault types entries t operator ≡ None → IsCells (term_in (typed_term types entries t))
  unfolding reference_fault
  reference-fits t operator none =
      let parts = both _ _ none in
      reference-cells (typed_term types entries t) (term-typed t parts.0) (needed _ _ _ parts.1)

  alike-fit : (t u : TypedTerm) → IsTyped t → IsTyped u → are_alike t u ≡ true → SameTestFits types scope (term_in t) (term_in u)
  alike-fit typed.Null u left right is = let c = reference-cells u right is in record { ty = c.ty; left = tt; right = c.fits }
  alike-fit (typed.Path p) typed.Null left right is =
      let c = cell-sort p.sort is in record { ty = c.ty; left = at-cell p c.ty c.is left; right = tt }
  alike-fit (typed.Path p) (typed.Path q) left right is =
      let parts = and-parts (is_cell p.sort) (is_cell q.sort && are_of_one_type p.sort q.sort) is in
      let more = and-parts (is_cell q.sort) (are_of_one_type p.sort q.sort) parts.1 in
      let c = cell-sort p.sort parts.0 in
      let d = cell-sort q.sort more.0 in
      let same = one-cell-type p.sort q.sort c.ty d.ty c.is d.is more.1 in
      record { ty = d.ty; left = at-cell p d.ty (c.is ∙ ap sort.Cell same) left; right = at-cell q d.ty d.is right }

  pub compared-fit : (t : source.Term) (operator : Pos) (u : source.Term) → compared_fault types entries t operator u ≡ None →
      SameTestFits types scope (term_in (typed_term types entries t)) (term_in (typed_term types entries u))
  unfolding compared_fault reference_fault
  compared-fit t operator u none =
      let parts = both _ _ none in
      let more = both _ _ parts.1 in
      alike-fit (typed_term types entries t) (typed_term types entries u) (term-typed t (both _ _ parts.0).0) (term-typed u more.0) (needed _ _ _ more.1)

  cell-of-type : (t : TypedTerm) → IsTyped t → (ty : TypeId) → cell_type t ≡ Some ty → TermFits types scope (term_in t) (logic.Cell ty)
  cell-of-type typed.Null fits ty is = tt
  cell-of-type (typed.Path p) fits ty is = at-cell p ty (cell_of-sort p.sort ty is) fits

  -- a path to a cell
  pub cell-fits : (t : source.Term) (operator : Pos) → cell_fault types entries t operator ≡ None → (ty : TypeId) →
      cell_type (typed_term types entries t) ≡ Some ty → TermFits types scope (term_in (typed_term types entries t)) (logic.Cell ty)
  unfolding cell_fault
  cell-fits t operator none ty is = cell-of-type (typed_term types entries t) (term-typed t (both _ _ none).0) ty is

  pub variant-fits : (t : source.Term) (colon : Pos) (v : Name) → variant_test_fault types entries t colon v ≡ None →
      VariantTestFits types scope (term_in (variant_test types entries t v).0) (variant_test types entries t v).1
  unfolding variant_test_fault variant_test
  variant-fits t colon v none =
      let parts = both _ _ none in
      let is = variant-under types (cell_type (typed_term types entries t)) v.bytes (record { ty = record { 0 = 0 }; index = 0 }) (needed _ _ _ parts.1) in
      record { variant = is.known; term = cell-fits t colon parts.0 _ is.of }
