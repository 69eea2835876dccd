-- An assertion without a fault fits.
use Rattle.std.proofs.Common.{◌≡◌, Bool, true, false, List, [], ◌∷◌, map, fold, Option, Some, None, is_some, length}
use Rattle.std.proofs.Common.{ℕ, ◌<◌, unwrap_or, refl, sym, ◌∙◌, subst, arith}
use Rattle.std.specs.Option.{option_map}
use Rattle.std.specs.List.{AllByRecursion}
use Rattle.std.proofs.lemmas.List.{length-map}
use Rattle.pale_syntax.specs.declared.tree.names.Name.{Name}
use Rattle.pale_syntax.specs.declared.tree.assertion.Quantifier.{Quantifier}
use Rattle.pale_syntax.specs.declared.tree.assertion.QuantifierKind.{QuantifierKind}
use Rattle.pale_syntax.specs.declared.tree.assertion.QuantifierKind.TheVariants as some
use Rattle.pale_syntax.specs.declared.tree.assertion.Assertion as source
use Rattle.pale_syntax.specs.declared.tree.assertion.Assertion.TheOpen.{Assertion-F}
use Rattle.pale_syntax.specs.declared.tree.assertion.Assertion.TheFolds.{map-Assertion, ind-Assertion}
use Rattle.store_core.specs.declared.ids.TypeId.{TypeId}
use Rattle.store_core.specs.Tables.{TypeEntry, KnowsType, place_of, type_names}
use Rattle.store_logic.specs.declared.assertion.Assertion.{Assertion}
use Rattle.store_logic.specs.Sorts.{Scope, under}
use Rattle.store_logic.specs.Fits.{FitsIn}
use Rattle.pale_tables.specs.Faults.{Fault, first_of}
use Rattle.pale_tables.proofs.KnownRoutes.{both, needed, position-within}
use Rattle.pale_terms.specs.Visibles.{Entry}
use Rattle.pale_vocabulary.specs.declared.vocabulary.Vocabulary.{Vocabulary}
use Rattle.pale_vocabulary.specs.declared.connective.Connective.{Connective}
use Rattle.pale_vocabulary.specs.declared.connective.Connective.TheVariants as connective
use Rattle.pale_vocabulary.specs.Atoms.{same_of}
use Rattle.pale_vocabulary.specs.Connectives.{connected, chained, quantified_once}
use Rattle.pale_vocabulary.specs.Quantifiers.{type_found, bound_type, sort_of, inside, quantifier_fault}
use Rattle.pale_vocabulary.specs.Assertions.{each_in, typing_rules, fault_rules, assertion_fault, typed_assertion}
use Rattle.pale_vocabulary.proofs.AssertionLemmas.{fault_form, typed_form}
use Rattle.pale_fitting.specs.Standing.{sort_in, StandFor, pred_sorts}
use Rattle.pale_fitting.specs.Naming.{AreNamesOf}
use Rattle.claim_laws.proofs.FitForms.{Fits-True, Fits-False, Fits-Not, Fits-And, Fits-Or, Fits-Imp, Fits-Iff, Fits-Ex, Fits-All, Fits-ExSet, Fits-AllSet}
use Rattle.pale_fitting.proofs.BindingLemmas.{deeper, deeper-preds, binds}
use Rattle.pale_fitting.proofs.AtomFitLemmas.{truth-of-fits, same-of-fits, is-of-fits, member-of-fits, subset-of-fits, walk-of-fits, use-of-fits}

module _ (types : List TypeEntry) where
  -- ---- connectives

  connected-fits : (c : Connective) (a b : Assertion) (scope : Scope) → FitsIn types a scope → FitsIn types b scope → FitsIn types (connected c a b) scope
  connected-fits connective.And a b scope first second = (Fits-And types scope a b).1 (first, second)
  connected-fits connective.Or a b scope first second = (Fits-Or types scope a b).1 (first, second)
  connected-fits connective.Imp a b scope first second = (Fits-Imp types scope a b).1 (first, second)
  connected-fits connective.Iff a b scope first second = (Fits-Iff types scope a b).1 (first, second)

  chained-fits : (c : Connective) (a : Assertion) (others : List Assertion) (scope : Scope) → FitsIn types a scope →
      AllByRecursion (λ b. FitsIn types b scope) others → FitsIn types (chained c a others) scope
  chained-fits c a [] scope first all = first
  chained-fits c a (b ∷ others) scope first all =
      chained-fits c (connected c a b) others scope (connected-fits c a b scope first all.0) all.1

  -- ---- quantifiers

  once-fits : (of_sets : Bool) (k : QuantifierKind) (ty : TypeId) (a : Assertion) (scope : Scope) → KnowsType types ty →
      FitsIn types a (under (sort_in (sort_of of_sets ty)) scope) → FitsIn types (quantified_once of_sets k ty a) scope
  once-fits false some.Ex ty a scope known fits = (Fits-Ex types scope ty a).1 (known, fits)
  once-fits false some.All ty a scope known fits = (Fits-All types scope ty a).1 (known, fits)
  once-fits true some.Ex ty a scope known fits = (Fits-ExSet types scope ty a).1 (known, fits)
  once-fits true some.All ty a scope known fits = (Fits-AllSet types scope ty a).1 (known, fits)

  all-names-fit : (of_sets : Bool) (k : QuantifierKind) (ty : TypeId) (names : List Name) (a : Assertion) (scope : Scope) → KnowsType types ty →
      FitsIn types a (deeper (sort_in (sort_of of_sets ty)) names scope) →
      FitsIn types (fold (λ inner (name : Name). quantified_once of_sets k ty inner) a names) scope
  all-names-fit of_sets k ty [] a scope known fits = fits
  all-names-fit of_sets k ty (x ∷ names) a scope known fits =
      all-names-fit of_sets k ty names (quantified_once of_sets k ty a) scope known
      (once-fits of_sets k ty a (deeper (sort_in (sort_of of_sets ty)) names scope) known fits)

  bound-known : (q : Quantifier) (entries : List Entry) → quantifier_fault types entries q ≡ None → KnowsType types (bound_type types q)
  unfolding quantifier_fault type_found
  bound-known q entries none = by (place_of q.ty.bytes (type_names types)) refl (needed _ _ _ (both _ _ none).1)
    where
      by : (o : Option ℕ) → place_of q.ty.bytes (type_names types) ≡ o → is_some (option_map (λ i. let t : TypeId = record { 0 = i } in t) o) ≡ true →
          (unwrap_or (option_map (λ i. let t : TypeId = record { 0 = i } in t) o) (record { 0 = 0 })).0 < length types
      by None at is = absurd cc
      by (Some i) at is =
          let low : i < length (type_names types) = position-within _ (type_names types) i at in
          let count = length-map types (λ (t : TypeEntry). t.name) in
          omega arith

-- ---- all forms

module _ (v : Vocabulary) (names : AreNamesOf v.types v.names) where
  abbrev IsFit : source.Assertion → Type 0
  IsFit a = (entries : List Entry) (scope : Scope) → StandFor entries scope → scope.preds ≡ pred_sorts v.preds → assertion_fault v entries a ≡ None →
      FitsIn v.types (typed_assertion v entries a) scope

  abbrev faults : source.Assertion → List Entry → Fault
  faults a entries = assertion_fault v entries a

  abbrev typings : source.Assertion → List Entry → Assertion
  typings a entries = typed_assertion v entries a

  each-fits : (others : List ((a : source.Assertion) × IsFit a)) (entries : List Entry) (scope : Scope) → StandFor entries scope →
      scope.preds ≡ pred_sorts v.preds →
      first_of (λ (next : List Entry → Fault). next entries) (map faults (map (λ e. e.0) others)) ≡ None →
      AllByRecursion (λ b. FitsIn v.types b scope) (each_in entries (map typings (map (λ e. e.0) others)))
  each-fits [] entries scope stand preds none = tt
  each-fits (e ∷ others) entries scope stand preds none =
      let parts = both _ _ none in (e.1 entries scope stand preds parts.0, each-fits others entries scope stand preds parts.1)

  node-fits : (y : Assertion-F ((a : source.Assertion) × IsFit a)) (entries : List Entry) (scope : Scope) → StandFor entries scope →
      scope.preds ≡ pred_sorts v.preds →
      fault_rules v (map-Assertion source.Assertion (List Entry → Fault) faults
      (map-Assertion ((a : source.Assertion) × IsFit a) source.Assertion (λ e. e.0) y)) entries ≡ None →
      FitsIn v.types (typing_rules v (map-Assertion source.Assertion (List Entry → Assertion) typings
      (map-Assertion ((a : source.Assertion) × IsFit a) source.Assertion (λ e. e.0) y)) entries) scope
  node-fits Assertion-F.True entries scope stand preds none = (Fits-True v.types scope).1 tt
  node-fits Assertion-F.False entries scope stand preds none = (Fits-False v.types scope).1 tt
  node-fits (Assertion-F.Truth p) entries scope stand preds none = truth-of-fits v.types entries scope stand p none
  node-fits (Assertion-F.Same t operator u) entries scope stand preds none = same-of-fits v.types entries scope stand t operator u none
  node-fits (Assertion-F.Differ t operator u) entries scope stand preds none =
      (Fits-Not v.types scope (same_of v.types entries t u)).1 (same-of-fits v.types entries scope stand t operator u none)
  node-fits (Assertion-F.Member t word set) entries scope stand preds none = member-of-fits v.types entries scope stand t word set none
  node-fits (Assertion-F.Subset t word other) entries scope stand preds none = subset-of-fits v.types entries scope stand t word other none
  node-fits (Assertion-F.Walk t angle along u) entries scope stand preds none = walk-of-fits v entries scope stand names t angle along u none
  node-fits (Assertion-F.Is t colon variant) entries scope stand preds none = is-of-fits v.types entries scope stand t colon variant none
  node-fits (Assertion-F.Use p paths) entries scope stand preds none = use-of-fits v entries scope stand preds p paths none
  node-fits (Assertion-F.Not place a) entries scope stand preds none =
      (Fits-Not v.types scope (typed_assertion v entries a.0)).1 (a.1 entries scope stand preds none)
  node-fits (Assertion-F.And first others) entries scope stand preds none =
      let parts = both _ _ none in
      chained-fits v.types connective.And (typed_assertion v entries first.0) _ scope (first.1 entries scope stand preds parts.0)
      (each-fits others entries scope stand preds parts.1)
  node-fits (Assertion-F.Or first others) entries scope stand preds none =
      let parts = both _ _ none in
      chained-fits v.types connective.Or (typed_assertion v entries first.0) _ scope (first.1 entries scope stand preds parts.0)
      (each-fits others entries scope stand preds parts.1)
  node-fits (Assertion-F.Imp a place b) entries scope stand preds none =
      let parts = both _ _ none in
      connected-fits v.types connective.Imp (typed_assertion v entries a.0) (typed_assertion v entries b.0) scope
      (a.1 entries scope stand preds parts.0) (b.1 entries scope stand preds parts.1)
  node-fits (Assertion-F.Iff first others) entries scope stand preds none =
      let parts = both _ _ none in
      chained-fits v.types connective.Iff (typed_assertion v entries first.0) _ scope (first.1 entries scope stand preds parts.0)
      (each-fits others entries scope stand preds parts.1)
  node-fits (Assertion-F.Quantified q a) entries scope stand preds none =
      let parts = both _ _ none in
      let ty = bound_type v.types q in
      let of = sort_of q.of_sets ty in
      all-names-fit v.types q.of_sets q.kind ty q.names (typed_assertion v (inside v.types entries q) a.0) scope (bound-known v.types q entries parts.0)
      (a.1 (inside v.types entries q) (deeper (sort_in of) q.names scope) (binds of q.names entries scope stand)
      (deeper-preds (sort_in of) q.names scope ∙ preds) parts.1)

  pub assertion-fits : (a : source.Assertion) → IsFit a
  assertion-fits = ind-Assertion IsFit (λ x y is entries scope stand preds none.
      subst (λ (b : Assertion). FitsIn v.types b scope) (sym (typed_form v entries _ x refl))
      (subst (λ (z : Assertion-F source.Assertion). fault_rules v (map-Assertion source.Assertion (List Entry → Fault) faults z) entries ≡ None →
      FitsIn v.types (typing_rules v (map-Assertion source.Assertion (List Entry → Assertion) typings z) entries) scope) is
      (node-fits y entries scope stand preds) (sym (fault_form v entries _ x refl) ∙ none)))
