-- What visible names mean.
use Rattle.std.proofs.Common.{◌≡◌, ℕ, zero, suc, ◌-◌, true, false, List, [], ◌∷◌, length, slice_get, Option, Some, None, unwrap_or, refl, subst, arith}
use Rattle.std.specs.Option.{option_map, option_and_then}
use Rattle.pale_syntax.specs.declared.tree.names.Name.{Name}
use Rattle.store_core.specs.Tables.{place_of}
use Rattle.store_logic.specs.declared.term.Base.TheVariants as base
use Rattle.store_logic.specs.Sorts.{Scope, BaseFits}
use Rattle.pale_terms.specs.declared.sort.Sort.TheVariants as sort
use Rattle.pale_terms.specs.declared.scope.Meaning.{Meaning}
use Rattle.pale_terms.specs.Visibles.{Entry}
use Rattle.pale_terms.specs.Scopes.{visible_names, sight_of, meaning_at, meaning_of}
use Rattle.pale_fitting.specs.Standing.{sort_in, HasItsSort, StandFor}

-- what is so of each visible name, and of none, is so of what the name means
pub meaning-from : (P : Meaning → Type 0) (entries : List Entry) (x : Name) →
    ((place : ℕ) (e : Entry) → slice_get entries place ≡ Some e → P (meaning_at (e.visible, length entries - 1 - place))) →
    P (record { base = base.Param 0; sort = sort.Truth; may = false }) → P (meaning_of entries x)
unfolding meaning_of sight_of
meaning-from P entries x each none = by (place_of x.bytes (visible_names entries))
  where
    at : (place : ℕ) (o : Option Entry) → slice_get entries place ≡ o →
        P (unwrap_or (option_map meaning_at (option_map (λ (e : Entry). (e.visible, length entries - 1 - place)) o))
        (record { base = base.Param 0; sort = sort.Truth; may = false }))
    at place None is = none
    at place (Some e) is = each place e is

    by : (o : Option ℕ) → P (unwrap_or
        (option_map meaning_at (option_and_then (λ place. option_map (λ (e : Entry). (e.visible, length entries - 1 - place)) (slice_get entries place)) o))
        (record { base = base.Param 0; sort = sort.Truth; may = false }))
    by None = none
    by (Some place) = at place (slice_get entries place) refl

entry-stands : (entries : List Entry) (scope : Scope) → StandFor entries scope → (place : ℕ) (e : Entry) → slice_get entries place ≡ Some e →
    HasItsSort scope (length entries - 1 - place) e
entry-stands [] scope all place e at = absurd cc
entry-stands (x ∷ entries) scope all zero e at =
    let same : x ≡ e = cc in
    let count : length entries ≡ length (x ∷ entries) - 1 - 0 = omega arith in
    subst (λ n. HasItsSort scope n e) count (subst (HasItsSort scope (length entries)) same all.0)
entry-stands (x ∷ entries) scope all (suc place) e at =
    let count : length entries - 1 - place ≡ length (x ∷ entries) - 1 - suc place = omega arith in
    subst (λ n. HasItsSort scope n e) count (entry-stands entries scope all.1 place e at)

-- what a name means has its sort in the scope, where the place may name it
pub meaning-fits : (entries : List Entry) (scope : Scope) → StandFor entries scope → (x : Name) → (meaning_of entries x).may ≡ true →
    BaseFits scope (meaning_of entries x).base (sort_in (meaning_of entries x).sort)
meaning-fits entries scope all x =
    meaning-from (λ m. m.may ≡ true → BaseFits scope m.base (sort_in m.sort)) entries x (λ place e at may. entry-stands entries scope all place e at may)
    (λ may. absurd cc)
