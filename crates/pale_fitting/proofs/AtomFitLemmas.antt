-- Assertions without parts that have no fault fit.
use Rattle.std.proofs.Common.{◌≡◌, ℕ, ◌<◌, true, List, [], ◌∷◌, length, map, slice_get}
use Rattle.std.proofs.Common.{Option, Some, None, is_some, IsSomeAnd, unwrap_or, refl, sym, ap, ◌∙◌, subst, arith}
use Rattle.std.specs.Option.{option_map, option_map_or}
use Rattle.std.proofs.lemmas.List.{length-map}
use Rattle.std.proofs.lemmas.Option.{slice_get-map}
use Rattle.pale_text.specs.declared.place.Pos.{Pos}
use Rattle.pale_syntax.specs.declared.tree.names.Name.{Name}
use Rattle.pale_syntax.specs.declared.tree.names.Path.{Path}
use Rattle.pale_syntax.specs.declared.tree.names.Term as source
use Rattle.pale_syntax.specs.declared.tree.names.Term.TheVariants as source_term
use Rattle.pale_syntax.specs.declared.tree.route.Route.{Route}
use Rattle.store_core.specs.declared.ids.TypeId.{TypeId}
use Rattle.store_core.specs.Tables.{TypeEntry}
use Rattle.store_logic.specs.Sorts as logic
use Rattle.store_logic.specs.Sorts.{Scope, TermFits, BaseFits, ArgFits, ArgsFit}
use Rattle.store_logic.specs.Fits.{MemberTestFits, FitsIn}
use Rattle.pale_tables.specs.declared.type_names.Followed.TheVariants as followed
use Rattle.pale_tables.proofs.KnownRoutes.{both, needed, names-of-whole, position-within}
use Rattle.pale_terms.specs.declared.sort.Sort.{Sort}
use Rattle.pale_terms.specs.declared.sort.Sort.TheVariants as sort
use Rattle.pale_terms.specs.declared.terms.TypedTerm.{TypedTerm}
use Rattle.pale_terms.specs.Visibles.{Entry}
use Rattle.pale_terms.specs.Scopes.{meaning_of}
use Rattle.pale_terms.specs.Terms.{typed_path, typed_term, term_at, term_in, cell_type, compared_fault, variant_test_fault}
use Rattle.pale_vocabulary.specs.declared.vocabulary.Vocabulary.{Vocabulary}
use Rattle.pale_vocabulary.specs.Heads.{Head, head_names, params_at}
use Rattle.pale_vocabulary.specs.Arguments.{truth_argument_fault, truth_argument, cell_argument_fault, cell_argument, set_argument_fault, set_argument}
use Rattle.pale_vocabulary.specs.Arguments.{argument_fault, argument_of, arguments_fault, arguments_of, pred_named, applied_fault, applied_to}
use Rattle.pale_vocabulary.specs.Arguments.{use_fault, use_of}
use Rattle.pale_vocabulary.specs.Atoms.{truth_fault, truth_of, same_of, is_in_type, member_fault, member_of, sets_fault, sets_of, subset_fault, subset_of}
use Rattle.pale_vocabulary.specs.Atoms.{walk_fault, walk_of, is_of}
use Rattle.pale_fitting.specs.Standing.{sort_in, StandFor, pred_sorts}
use Rattle.pale_fitting.specs.Naming.{AreNamesOf}
use Rattle.claim_laws.proofs.FitForms.{Fits-False, Fits-Truth, Fits-Is, Fits-Same, Fits-Member, Fits-Subset, Fits-Walk, Fits-Pred}
use Rattle.pale_fitting.proofs.RouteFitLemmas.{route-fits}
use Rattle.pale_fitting.proofs.StandingLemmas.{meaning-fits}
use Rattle.pale_fitting.proofs.TermFitLemmas.{IsNameOfSet, set-name, set-path-name, cell-sort, one-cell-type, one-set-type, one-mixed-type, same-number}
use Rattle.pale_fitting.proofs.TermFitLemmas.{truth-sort, there, path-fits, reference-fits, compared-fit, cell-fits, variant-fits, at-cell}

module _ (types : List TypeEntry) (entries : List Entry) (scope : Scope) (stand : StandFor entries scope) where
  -- a name of a set stands for a set
  set-fits : (x : Name) (is : IsNameOfSet entries x) → BaseFits scope (meaning_of entries x).base (logic.Set is.ty)
  set-fits x is = subst (λ s. BaseFits scope (meaning_of entries x).base (sort_in s)) is.is (meaning-fits entries scope stand x is.may)

  truth-path : (p : Path) → (typed_path types entries p).sort ≡ sort.Truth →
      TermFits types scope (term_at (typed_path types entries p)) (sort_in (typed_path types entries p).sort) →
      TermFits types scope (term_at (typed_path types entries p)) logic.Truth
  truth-path p is fits = subst (λ s. TermFits types scope (term_at (typed_path types entries p)) (sort_in s)) is fits

  pub truth-of-fits : (p : Path) → truth_fault types entries p ≡ None → FitsIn types (truth_of types entries p) scope
  unfolding truth_fault truth_of
  truth-of-fits p none =
      let parts = both _ _ none in
      (Fits-Truth types scope (term_at (typed_path types entries p))).1
      (truth-path p (truth-sort (typed_path types entries p).sort (needed _ _ _ parts.1)) (path-fits types entries scope stand p parts.0))

  pub same-of-fits : (t : source.Term) (operator : Pos) (u : source.Term) → compared_fault types entries t operator u ≡ None →
      FitsIn types (same_of types entries t u) scope
  unfolding same_of
  same-of-fits t operator u none =
      (Fits-Same types scope (term_in (typed_term types entries t)) (term_in (typed_term types entries u))).1
      (compared-fit types entries scope stand t operator u none)

  pub is-of-fits : (t : source.Term) (colon : Pos) (v : Name) → variant_test_fault types entries t colon v ≡ None → FitsIn types (is_of types entries t v) scope
  unfolding is_of
  is-of-fits t colon v none = (Fits-Is types scope _ _).1 (variant-fits types entries scope stand t colon v none)

  -- ---- sets

  -- a cell of the type of a set
  member-is : (t : TypedTerm) (set : Name) (is : IsNameOfSet entries set) (o : Option TypeId) → cell_type t ≡ o →
      ((ty : TypeId) → cell_type t ≡ Some ty → TermFits types scope (term_in t) (logic.Cell ty)) →
      is_in_type o (meaning_of entries set).sort ≡ true → MemberTestFits types scope (term_in t) (meaning_of entries set).base
  member-is t set is None at cell one = absurd cc
  member-is t set is (Some ty) at cell one =
      let same : is.ty ≡ ty = one-mixed-type (meaning_of entries set).sort (sort.Cell ty) is.ty ty is.is refl one in
      record {
        ty = ty;
        member = cell ty at;
        of_set = subst (λ u. BaseFits scope (meaning_of entries set).base (logic.Set u)) same (set-fits set is);
      }

  pub member-of-fits : (t : source.Term) (word : Pos) (set : Name) → member_fault types entries t word set ≡ None →
      FitsIn types (member_of types entries t set) scope
  unfolding member_fault member_of
  member-of-fits t word set none =
      let parts = both _ _ none in
      let more = both _ _ parts.1 in
      (Fits-Member types scope (term_in (typed_term types entries t)) (meaning_of entries set).base).1
      (member-is (typed_term types entries t) set (set-name entries set more.0) (cell_type (typed_term types entries t)) refl
      (cell-fits types entries scope stand t word parts.0) (needed _ _ _ more.1))

  sets-of-fits : (p : Path) (word : Pos) (other : Name) → sets_fault entries p word other ≡ None → FitsIn types (sets_of entries p other) scope
  unfolding sets_fault sets_of
  sets-of-fits p word other none =
      let parts = both _ _ none in
      let more = both _ _ parts.1 in
      let left = set-path-name entries p parts.0 in
      let right = set-name entries other more.0 in
      let same : left.ty ≡ right.ty =
      one-set-type (meaning_of entries p.base).sort (meaning_of entries other).sort left.ty right.ty left.is right.is (needed _ _ _ more.1) in
      (Fits-Subset types scope (meaning_of entries p.base).base (meaning_of entries other).base).1 (record {
        ty = right.ty;
        left = subst (λ u. BaseFits scope (meaning_of entries p.base).base (logic.Set u)) same (set-fits p.base left);
        right = set-fits other right;
      })

  pub subset-of-fits : (t : source.Term) (word : Pos) (other : Name) → subset_fault entries t word other ≡ None → FitsIn types (subset_of entries t other) scope
  subset-of-fits (source_term.Null place) word other none = (Fits-False types scope).1 tt
  subset-of-fits (source_term.Path p) word other none = sets-of-fits p word other none

  -- ---- arguments

  truth-argument-fits : (p : Path) → truth_argument_fault types entries p ≡ None → ArgFits types scope (truth_argument types entries p) logic.Truth
  unfolding truth_argument_fault truth_argument
  truth-argument-fits p none =
      let parts = both _ _ none in
      truth-path p (truth-sort (typed_path types entries p).sort (needed _ _ _ parts.1)) (path-fits types entries scope stand p parts.0)

  cell-argument-fits : (ty : TypeId) (p : Path) → cell_argument_fault types entries (sort.Cell ty) p ≡ None →
      ArgFits types scope (cell_argument types entries p) (logic.Cell ty)
  unfolding cell_argument_fault cell_argument
  cell-argument-fits ty p none =
      let parts = both _ _ none in
      let more = both _ _ parts.1 in
      let c = cell-sort (typed_path types entries p).sort (needed _ _ _ more.0) in
      let same : c.ty ≡ ty = one-cell-type (typed_path types entries p).sort (sort.Cell ty) c.ty ty c.is refl (needed _ _ _ more.1) in
      at-cell types entries scope stand (typed_path types entries p) ty (c.is ∙ ap sort.Cell same) (path-fits types entries scope stand p parts.0)

  set-argument-fits : (ty : TypeId) (p : Path) → set_argument_fault entries (sort.Set ty) p ≡ None → ArgFits types scope (set_argument entries p) (logic.Set ty)
  unfolding set_argument_fault set_argument
  set-argument-fits ty p none =
      let parts = both _ _ none in
      let is = set-path-name entries p parts.0 in
      let same : is.ty ≡ ty = one-set-type (meaning_of entries p.base).sort (sort.Set ty) is.ty ty is.is refl (needed _ _ _ parts.1) in
      subst (λ u. BaseFits scope (meaning_of entries p.base).base (logic.Set u)) same (set-fits p.base is)

  argument-fits : (s : Sort) (p : Path) → argument_fault types entries s p ≡ None → ArgFits types scope (argument_of types entries s p) (sort_in s)
  argument-fits sort.Truth p none = truth-argument-fits p none
  argument-fits (sort.Cell ty) p none = cell-argument-fits ty p none
  argument-fits (sort.Set ty) p none = set-argument-fits ty p none

  arguments-fit : (sorts : List Sort) (paths : List Path) → length paths ≡ length sorts → arguments_fault types entries sorts paths ≡ None →
      ArgsFit types scope (arguments_of types entries sorts paths) (map sort_in sorts)
  arguments-fit [] paths count none = tt
  arguments-fit (s ∷ sorts) [] count none = absurd (omega arith)
  arguments-fit (s ∷ sorts) (p ∷ paths) count none =
      let rest : length paths ≡ length sorts = omega arith in
      let parts = both _ _ none in
      (argument-fits s p parts.0, arguments-fit sorts paths rest parts.1)

-- ---- uses and walks

-- the parameters of a predicate that is there
params-there : (heads : List Head) (k : ℕ) → k < length heads → slice_get (pred_sorts heads) k ≡ Some (map sort_in (params_at heads k))
params-there heads k inside =
    slice_get-map (λ (head : Head). map sort_in head.params) heads k ∙ by (slice_get heads k) (there heads k inside)
  where
    by : (o : Option Head) → is_some o ≡ true → option_map (λ (head : Head). map sort_in head.params) o ≡
        Some (map sort_in (option_map_or (λ (head : Head). head.params) o []))
    by None is = absurd cc
    by (Some head) is = refl

module _ (v : Vocabulary) (entries : List Entry) (scope : Scope) (stand : StandFor entries scope) where
  pub walk-of-fits : AreNamesOf v.types v.names → (t : source.Term) (angle : Pos) (along : Route) (u : source.Term) →
      walk_fault v entries t angle along u ≡ None → FitsIn v.types (walk_of v entries t along u) scope
  unfolding walk_fault walk_of
  walk-of-fits names t angle along u none =
      let parts = both _ _ none in
      let more = both _ _ parts.1 in
      let from = reference-fits v.types entries scope stand t angle parts.0 in
      let to = reference-fits v.types entries scope stand u angle more.1 in
      (Fits-Walk v.types scope _ _ _).1 (record {
        from_type = from.ty;
        from = from.fits;
        route = route-fits v.types v.names names along (names-of-whole v.names followed.DataAndPointers angle along more.0);
        to_type = to.ty;
        to = to.fits;
      })

  applied-fits : scope.preds ≡ pred_sorts v.preds → (number : ℕ) (p : Name) (paths : List Path) → number < length v.preds →
      applied_fault v entries number p paths ≡ None → FitsIn v.types (applied_to v entries number paths) scope
  unfolding applied_fault applied_to
  applied-fits preds number p paths inside none =
      let parts = both _ _ none in
      let count : length paths ≡ length (params_at v.preds number) = same-number _ _ (needed _ _ _ parts.0) in
      (Fits-Pred v.types scope number (arguments_of v.types entries (params_at v.preds number) paths)).1
      (subst (λ (o : Option (List logic.Sort)). IsSomeAnd o (ArgsFit v.types scope (arguments_of v.types entries (params_at v.preds number) paths)))
      (sym (ap (λ (l : List (List logic.Sort)). slice_get l number) preds ∙ params-there v.preds number inside))
      (arguments-fit v.types entries scope stand (params_at v.preds number) paths count parts.1))

  pub use-of-fits : scope.preds ≡ pred_sorts v.preds → (p : Name) (paths : List Path) → use_fault v entries p paths ≡ None →
      FitsIn v.types (use_of v entries p paths) scope
  unfolding use_fault use_of
  use-of-fits preds p paths none =
      let parts = both _ _ none in by (pred_named v p) refl (needed _ _ _ parts.0) parts.1
    where
      by : (o : Option ℕ) → pred_named v p ≡ o → is_some o ≡ true → applied_fault v entries (unwrap_or o 0) p paths ≡ None →
          FitsIn v.types (applied_to v entries (unwrap_or o 0) paths) scope
      by None at is none = absurd cc
      by (Some k) at is none =
          let named : k < length (head_names v.preds) = position-within _ (head_names v.preds) k at in
          let count = length-map v.preds (λ (head : Head). head.name) in
          let inside : k < length v.preds = omega arith in
          applied-fits preds k p paths inside none
