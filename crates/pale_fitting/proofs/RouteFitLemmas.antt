-- A route without a fault fits.
use Rattle.std.proofs.Common.{◌≡◌, Bool, true, List, [], ◌∷◌, map, Option, Some, None, IfSome, is_some, unwrap_or, refl, sym, ap, ◌∙◌, subst}
use Rattle.std.specs.List.{AllByRecursion}
use mathlib.Core.Path.{transport}
use Rattle.pale_text.specs.declared.place.Pos.{Pos}
use Rattle.pale_syntax.specs.declared.tree.names.Name.{Name}
use Rattle.pale_syntax.specs.declared.tree.route.Route.{Route}
use Rattle.pale_syntax.specs.declared.tree.route.Route.TheOpen.{Route-F}
use Rattle.pale_syntax.specs.declared.tree.route.Route.TheFolds.{map-Route, ind-Route}
use Rattle.store_core.specs.declared.kind.Route as along
use Rattle.store_core.specs.declared.kind.Route.TheVariants as route
use Rattle.store_core.specs.declared.kind.Route.TheOpen as open_along
use Rattle.store_core.specs.declared.kind.Route.TheFolds as folds
use Rattle.store_core.specs.Tables.{TypeEntry, KnowsType, KnowsVariant}
use Rattle.store_logic.specs.Fits.{RouteFitsNode, RouteFits}
use Rattle.pale_tables.specs.declared.type_names.TypeNames.{TypeNames}
use Rattle.pale_tables.specs.declared.type_names.Followed.TheVariants as follows
use Rattle.pale_tables.specs.declared.routes.Chain.{Chain}
use Rattle.pale_tables.specs.declared.routes.Chain.TheVariants as chain
use Rattle.pale_tables.specs.Faults.{Fault, first_of}
use Rattle.pale_tables.specs.Routes.{type_named, variant_named, type_or_first, variant_or_first, type_fault, variant_fault, followed_fault, bool_fault}
use Rattle.pale_tables.specs.Routes.{route_rules, route_fault, route_node, route_of, joined, chained, starred}
use Rattle.pale_tables.proofs.RouteLemmas.{fault_form, route_form}
use Rattle.pale_tables.proofs.KnownRoutes.{both, needed}
use Rattle.pale_fitting.specs.Naming.{AreNamesOf}

-- what is there is of the kind that anything there is
pub some-then : {X : Type 0} (P : X → Type 0) (o : Option X) (otherwise : X) → is_some o ≡ true → IfSome o P → P (unwrap_or o otherwise)
some-then P None otherwise some all = absurd cc
some-then P (Some x) otherwise some all = all

module _ (types : List TypeEntry) where
  natural : (Part : Type 0) (whole : Part → along.Route) (fits : along.Route → Type 0) (x : open_along.Route-F Part) →
      RouteFitsNode types Part whole (λ p. fits (whole p)) x ≡ RouteFitsNode types along.Route (λ r. r) fits (folds.map-Route Part along.Route whole x)
  natural Part whole fits (open_along.Route-F.Down name) = refl
  natural Part whole fits (open_along.Route-F.Up name) = refl
  natural Part whole fits open_along.Route-F.UpAny = refl
  natural Part whole fits open_along.Route-F.Root = refl
  natural Part whole fits open_along.Route-F.Leaf = refl
  natural Part whole fits (open_along.Route-F.IsType ty) = refl
  natural Part whole fits (open_along.Route-F.IsVariant v) = refl
  natural Part whole fits (open_along.Route-F.IsBool name truth) = refl
  natural Part whole fits (open_along.Route-F.Then first second) = refl
  natural Part whole fits (open_along.Route-F.Or one other) = refl
  natural Part whole fits (open_along.Route-F.Star round) = refl

  -- a route of this form fits where its parts do
  by-form : (r : along.Route) (x : open_along.Route-F along.Route) → along.roll-Route x ≡ r → RouteFitsNode types along.Route (λ s. s) (RouteFits types) x →
      RouteFits types r
  by-form r x e = transport (λ i. sym (ap (RouteFits types) (sym e) ∙ folds.rec-roll-Route (Type 0) (RouteFitsNode types) natural x) i)

  joined-fits : (c : Chain) (r s : along.Route) → RouteFits types r → RouteFits types s → RouteFits types (joined c r s)
  joined-fits chain.Then r s first second = by-form (route.Then r s) (open_along.Route-F.Then r s) (route.rolls-Then r s) (first, second)
  joined-fits chain.Or r s first second = by-form (route.Or r s) (open_along.Route-F.Or r s) (route.rolls-Or r s) (first, second)

  chained-fits : (c : Chain) (r : along.Route) (rs : List along.Route) → RouteFits types r → AllByRecursion (RouteFits types) rs →
      RouteFits types (chained c r rs)
  chained-fits c r [] first others = first
  chained-fits c r (s ∷ rs) first others = chained-fits c (joined c r s) rs (joined-fits c r s first others.0) others.1

  starred-fits : (r : along.Route) (stars : List Pos) → RouteFits types r → RouteFits types (starred r stars)
  starred-fits r [] fits = fits
  starred-fits r (star ∷ stars) fits = starred-fits (route.Star r) stars (by-form (route.Star r) (open_along.Route-F.Star r) (route.rolls-Star r) fits)

  module _ (names : TypeNames) (of : AreNamesOf types names) where
    type-known : (ty : Name) → type_fault names ty ≡ None → KnowsType types (type_or_first names ty)
    unfolding type_fault
    type-known ty none =
        some-then (KnowsType types) (type_named names ty.bytes) (record { 0 = 0 }) (needed _ _ _ none) (of.type ty.bytes)

    variant-known : (ty v : Name) → variant_fault names ty v ≡ None → KnowsVariant types (variant_or_first names (type_or_first names ty) v)
    unfolding variant_fault
    variant-known ty v none =
        some-then (KnowsVariant types) (variant_named names (type_or_first names ty) v.bytes) (record { ty = type_or_first names ty; index = 0 })
        (needed _ _ _ (both _ _ none).1) (of.variant (type_or_first names ty) v.bytes)

    followed-fits : (f : Name) → followed_fault names follows.DataAndPointers f ≡ None →
        RouteFitsNode types along.Route (λ s. s) (RouteFits types) (open_along.Route-F.Down f.bytes)
    unfolding followed_fault
    followed-fits f none = of.followed f.bytes (needed _ _ _ (both _ _ none).1)

    bool-fits : (f : Name) (truth : Bool) → bool_fault names f ≡ None →
        RouteFitsNode types along.Route (λ s. s) (RouteFits types) (open_along.Route-F.IsBool f.bytes truth)
    unfolding bool_fault
    bool-fits f truth none = of.bool f.bytes (needed _ _ _ (both _ _ none).1)

    IsFit : Route → Type 0
    IsFit r = route_fault names follows.DataAndPointers r ≡ None → RouteFits types (route_of names r)

    each-fits : (others : List ((r : Route) × IsFit r)) →
        first_of (λ f. f) (map (route_fault names follows.DataAndPointers) (map (λ e. e.0) others)) ≡ None →
        AllByRecursion (RouteFits types) (map (route_of names) (map (λ e. e.0) others))
    unfolding IsFit
    each-fits [] none = tt
    each-fits (e ∷ others) none = let parts = both _ _ none in (e.1 parts.0, each-fits others parts.1)

    node-fits : (y : Route-F ((r : Route) × IsFit r)) →
        route_rules names follows.DataAndPointers
        (map-Route Route Fault (route_fault names follows.DataAndPointers) (map-Route ((r : Route) × IsFit r) Route (λ e. e.0) y)) ≡ None →
        RouteFits types (route_node names (map-Route Route along.Route (route_of names) (map-Route ((r : Route) × IsFit r) Route (λ e. e.0) y)))
    unfolding IsFit
    node-fits (Route-F.Down f) none = by-form (route.Down f.bytes) (open_along.Route-F.Down f.bytes) (route.rolls-Down f.bytes) (followed-fits f none)
    node-fits (Route-F.Up f) none = by-form (route.Up f.bytes) (open_along.Route-F.Up f.bytes) (route.rolls-Up f.bytes) (followed-fits f none)
    node-fits Route-F.UpAny none = by-form route.UpAny open_along.Route-F.UpAny route.rolls-UpAny tt
    node-fits Route-F.Root none = by-form route.Root open_along.Route-F.Root route.rolls-Root tt
    node-fits Route-F.Leaf none = by-form route.Leaf open_along.Route-F.Leaf route.rolls-Leaf tt
    node-fits (Route-F.IsType ty) none =
        let t = type_or_first names ty in by-form (route.IsType t) (open_along.Route-F.IsType t) (route.rolls-IsType t) (type-known ty none)
    node-fits (Route-F.IsVariant ty v) none =
        let found = variant_or_first names (type_or_first names ty) v in
        by-form (route.IsVariant found) (open_along.Route-F.IsVariant found) (route.rolls-IsVariant found) (variant-known ty v none)
    node-fits (Route-F.IsBool f truth) none =
        by-form (route.IsBool f.bytes truth) (open_along.Route-F.IsBool f.bytes truth) (route.rolls-IsBool f.bytes truth) (bool-fits f truth none)
    node-fits (Route-F.Then first others) none =
        let parts = both _ _ none in chained-fits chain.Then (route_of names first.0) _ (first.1 parts.0) (each-fits others parts.1)
    node-fits (Route-F.Or first others) none =
        let parts = both _ _ none in chained-fits chain.Or (route_of names first.0) _ (first.1 parts.0) (each-fits others parts.1)
    node-fits (Route-F.Star round stars) none = starred-fits (route_of names round.0) stars (round.1 none)

    pub route-fits : (r : Route) → route_fault names follows.DataAndPointers r ≡ None → RouteFits types (route_of names r)
    unfolding IsFit
    route-fits = ind-Route IsFit (λ x y is none.
        subst (RouteFits types) (sym (route_form names _ x refl))
        (subst (λ z. route_rules names follows.DataAndPointers (map-Route Route Fault (route_fault names follows.DataAndPointers) z) ≡ None →
        RouteFits types (route_node names (map-Route Route along.Route (route_of names) z))) is (node-fits y)
        (sym (fault_form names follows.DataAndPointers _ x refl) ∙ none)))
