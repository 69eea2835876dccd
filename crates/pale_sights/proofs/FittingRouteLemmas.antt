-- The routes of declared pointer fields fit as routes of assertions do.
use Rattle.std.proofs.Common.{◌≡◌, ◌+◌, ℕ, Bool, true, ◌||◌, List, [], ◌∷◌, ◌++◌, map, Option, Some, None, refl, sym, ap, ◌∙◌, subst}
use Rattle.std.specs.List.{AllByRecursion}
use Rattle.pale_syntax.specs.declared.tree.names.Name.{Name}
use Rattle.pale_syntax.specs.declared.tree.route.Route.{Route}
use Rattle.pale_syntax.specs.declared.tree.route.Route.TheOpen.{Route-F}
use Rattle.pale_syntax.specs.declared.tree.route.Route.TheFolds.{map-Route, ind-Route}
use Rattle.pale_syntax.specs.declared.tree.declaration.TypeDeclaration.{TypeDeclaration}
use Rattle.pale_syntax.specs.declared.tree.declaration.VariantDeclaration.{VariantDeclaration}
use Rattle.pale_syntax.specs.declared.tree.declaration.FieldDeclaration.{FieldDeclaration}
use Rattle.pale_syntax.specs.declared.tree.declaration.FieldForm.{FieldForm}
use Rattle.pale_syntax.specs.declared.tree.declaration.FieldForm.TheVariants as form
use Rattle.store_core.specs.Tables.{TypeEntry, FieldEntry}
use Rattle.store_logic.proofs.ExpandingLists.{all-append}
use Rattle.pale_tables.specs.declared.type_names.TypeNames.{TypeNames}
use Rattle.pale_tables.specs.declared.type_names.Followed.TheVariants as follows
use Rattle.pale_text.specs.declared.refusal.RefusalKind.TheVariants as kind
use Rattle.pale_tables.specs.Faults.{Fault, need, first_of}
use Rattle.pale_tables.specs.Routes.{is_among, route_fault, route_rules, followed_fault}
use Rattle.pale_tables.specs.Types.{names_in, type_table, type_entry, field_entry, variant_fields, with_fields, kind_of}
use Rattle.pale_tables.specs.Types.{form_fault, fields_fault, variants_fault, declaration_fault, types_fault}
use Rattle.pale_tables.proofs.FaultLemmas.{none-then}
use Rattle.pale_tables.proofs.KnownRoutes.{both, needed, names-of-whole}
use Rattle.pale_tables.proofs.RouteLemmas.{fault_form}
use Rattle.pale_fitting.specs.Naming.{AreNamesOf}
use Rattle.pale_fitting.proofs.NamingLemmas.{names-of}
use Rattle.pale_fitting.proofs.RouteFitLemmas.{route-fits}
use Rattle.pale_typed.specs.Variables.{KindFits, FieldsFit}

-- ---- a route over data fields is one over data and pointer fields

module _ (names : TypeNames) where
  or-first : (a b : Bool) → a ≡ true → (a || b) ≡ true
  or-first a b is = ap (λ x. x || b) is

  followed-both : (f : Name) → followed_fault names follows.Data f ≡ None → followed_fault names follows.DataAndPointers f ≡ None
  unfolding followed_fault
  followed-both f none =
      let parts = both _ _ none in
      let data_field : is_among names.data_fields f.bytes ≡ true = needed _ _ _ parts.1 in
      none-then _ _ parts.0 (ap (λ is. need is kind.Kind f.place) (or-first _ (is_among names.pointer_fields f.bytes) data_field))

  IsBoth : Route → Type 0
  IsBoth r = route_fault names follows.Data r ≡ None → route_fault names follows.DataAndPointers r ≡ None

  abbrev Marked : Type 0
  Marked = (r : Route) × IsBoth r

  each-both : (others : List Marked) →
      first_of (λ f. f) (map (route_fault names follows.Data) (map (λ e. e.0) others)) ≡ None →
      first_of (λ f. f) (map (route_fault names follows.DataAndPointers) (map (λ e. e.0) others)) ≡ None
  unfolding IsBoth
  each-both [] none = refl
  each-both (e ∷ others) none = let parts = both _ _ none in none-then _ _ (e.1 parts.0) (each-both others parts.1)

  node-both : (y : Route-F Marked) →
      route_rules names follows.Data (map-Route Route Fault (route_fault names follows.Data) (map-Route Marked Route (λ e. e.0) y)) ≡ None →
      route_rules names follows.DataAndPointers (map-Route Route Fault (route_fault names follows.DataAndPointers) (map-Route Marked Route (λ e. e.0) y)) ≡ None
  unfolding IsBoth
  node-both (Route-F.Down f) none = followed-both f none
  node-both (Route-F.Up f) none = followed-both f none
  node-both Route-F.UpAny none = refl
  node-both Route-F.Root none = refl
  node-both Route-F.Leaf none = refl
  node-both (Route-F.IsType ty) none = none
  node-both (Route-F.IsVariant ty v) none = none
  node-both (Route-F.IsBool f truth) none = none
  node-both (Route-F.Then first others) none = let parts = both _ _ none in none-then _ _ (first.1 parts.0) (each-both others parts.1)
  node-both (Route-F.Or first others) none = let parts = both _ _ none in none-then _ _ (first.1 parts.0) (each-both others parts.1)
  node-both (Route-F.Star round stars) none = round.1 none

  route-both : (r : Route) → route_fault names follows.Data r ≡ None → route_fault names follows.DataAndPointers r ≡ None
  unfolding IsBoth
  route-both = ind-Route IsBoth (λ x y is none.
      fault_form names follows.DataAndPointers _ x refl
      ∙ subst (λ z. route_rules names follows.Data (map-Route Route Fault (route_fault names follows.Data) z) ≡ None →
      route_rules names follows.DataAndPointers (map-Route Route Fault (route_fault names follows.DataAndPointers) z) ≡ None) is (node-both y)
      (sym (fault_form names follows.Data _ x refl) ∙ none))

-- ---- declarations

module _ (names : TypeNames) (types : List TypeEntry) (of : AreNamesOf types names) where
  kind-fits : (f : FieldForm) → form_fault names f ≡ None → KindFits types (kind_of names f)
  kind-fits form.Bool none = tt
  kind-fits (form.Data target) none = tt
  kind-fits (form.Pointer target bracket along) none =
      route-fits types names of along (route-both names along (names-of-whole names follows.Data bracket along (both _ _ none).1))

  fields-fit : (only : Option ℕ) (before : List (List ℕ)) (fields : List FieldDeclaration) → fields_fault names before fields ≡ None →
      FieldsFit types (map (field_entry names only) fields)
  fields-fit only before [] none = tt
  fields-fit only before (f ∷ fields) none =
      let parts = both _ _ none in
      (kind-fits f.form (both _ _ parts.0).1, fields-fit only (before ++ f.name.bytes ∷ []) fields parts.1)

  variants-fit : (index : ℕ) (fields before : List (List ℕ)) (variants : List VariantDeclaration) → variants_fault names fields before variants ≡ None →
      FieldsFit types (variant_fields names index variants)
  variants-fit index fields before [] none = tt
  variants-fit index fields before (v ∷ variants) none =
      let parts = both _ _ none in
      let inner = both _ _ parts.1 in
      all-append (λ (f : FieldEntry). KindFits types f.kind) (map (field_entry names (Some index)) v.fields) (variant_fields names (index + 1) variants)
      (fields-fit (Some index) fields v.fields inner.0)
      (variants-fit (index + 1) (with_fields fields v.fields) (before ++ v.name.bytes ∷ []) variants inner.1)

  type-fits : (t : TypeDeclaration) → declaration_fault names t ≡ None → FieldsFit types (type_entry names t).fields
  unfolding declaration_fault
  type-fits t none =
      let parts = both _ _ none in
      all-append (λ (f : FieldEntry). KindFits types f.kind) (map (field_entry names None) t.fields) (variant_fields names 0 t.variants)
      (fields-fit None [] t.fields parts.0) (variants-fit 0 (with_fields [] t.fields) [] t.variants parts.1)

  types-fit : (ts : List TypeDeclaration) → first_of (declaration_fault names) ts ≡ None →
      AllByRecursion (λ t. FieldsFit types t.fields) (map (type_entry names) ts)
  types-fit [] none = tt
  types-fit (t ∷ ts) none = let parts = both _ _ none in (type-fits t parts.0, types-fit ts parts.1)

pub routes-fit : (ts : List TypeDeclaration) → types_fault ts ≡ None → AllByRecursion (λ t. FieldsFit (type_table ts) t.fields) (type_table ts)
unfolding type_table types_fault
routes-fit ts none = types-fit (names_in ts) (type_table ts) (names-of ts) ts none
