-- A route without a fault names types and variants that are there.
use Rattle.std.proofs.Common.{◌≡◌, ℕ, zero, suc, ◌<◌, ◌≤◌, Bool, true, false, IsTrue, ◌&&◌, List, [], ◌∷◌, length, map, Option, Some, None}
use Rattle.std.proofs.Common.{refl, sym, ap, ◌∙◌, subst, arith, is_some, nat_lt, cond, position, unwrap_or}
use Rattle.std.specs.Option.{option_map}
use Rattle.std.specs.List.{AllByRecursion}
use Rattle.pale_text.specs.declared.place.Pos.{Pos}
use Rattle.pale_text.specs.declared.refusal.RefusalKind.{RefusalKind}
use Rattle.pale_text.specs.declared.refusal.RefusalKind.TheVariants as kind
use Rattle.pale_syntax.specs.declared.tree.names.Name.{Name}
use Rattle.pale_syntax.specs.declared.tree.route.Route.{Route, roll-Route}
use Rattle.pale_syntax.specs.declared.tree.route.Route.TheOpen.{Route-F}
use Rattle.pale_syntax.specs.declared.tree.route.Route.TheFolds.{map-Route, ind-Route}
use Rattle.store_core.specs.declared.ids.TypeId.{TypeId}
use Rattle.store_core.specs.declared.ids.VariantId.{VariantId}
use Rattle.store_core.specs.declared.kind.Route as along
use Rattle.store_core.specs.declared.kind.Route.TheVariants as route
use Rattle.store_core.specs.declared.kind.Route.TheOpen as open_along
use Rattle.store_core.specs.declared.kind.Route.TheFolds as folds
use Rattle.store_core.specs.Tables.{TypeEntry, KnowsType, KnowsVariant, KnowsRoute, knows_node, place_of}
use Rattle.store_core.proofs.Names.{position-cons}
use Rattle.pale_tables.specs.declared.type_names.TypeNames.{TypeNames}
use Rattle.pale_tables.specs.declared.type_names.Followed.{Followed}
use Rattle.pale_tables.specs.declared.routes.Chain.{Chain}
use Rattle.pale_tables.specs.declared.routes.Chain.TheVariants as chain
use Rattle.pale_tables.specs.Faults.{Fault, need, ◌>>◌, first_of}
use Rattle.pale_tables.specs.Routes.{type_named, variant_named, type_or_first, variant_or_first, type_fault, variant_fault}
use Rattle.pale_tables.specs.Routes.{route_rules, route_fault, whole_route_fault, route_node, route_of, joined, chained, starred}
use Rattle.pale_tables.proofs.RouteLemmas.{fault_form, route_form}

-- ---- without a fault

pub both : (a b : Fault) → (a >> b) ≡ None → (a ≡ None) × (b ≡ None)
both None b none = (refl, none)
both (Some r) b none = absurd (cc)

-- a route that has no fault where it stands names nothing that is refused
pub names-of-whole : (names : TypeNames) (follows : Followed) (place : Pos) (r : Route) → whole_route_fault names follows place r ≡ None →
    route_fault names follows r ≡ None
unfolding whole_route_fault
names-of-whole names follows place r none = (both _ _ none).1

pub needed : (is : Bool) (k : RefusalKind) (place : Pos) → need is k place ≡ None → is ≡ true
needed true k place none = refl
needed false k place none = absurd (cc)

-- ---- names

pub position-within : {X : Type 0} (p : X → Bool) (xs : List X) (i : ℕ) → position p xs ≡ Some i → i < length xs
position-within p [] i at = absurd (cc)
position-within p (x ∷ xs) i at = by (p x) (position p xs) (λ j is. position-within p xs j is) (sym (position-cons p x xs) ∙ at)
  where
    by : (b : Bool) (o : Option ℕ) → ((j : ℕ) → o ≡ Some j → j < length xs) → cond b (Some 0) (option_map suc o) ≡ Some i → i < suc (length xs)
    by true o low e = let same : 0 ≡ i = cc in omega (arith, same)
    by false None low e = absurd (cc)
    by false (Some j) low e = let same : suc j ≡ i = cc in let lt = low j refl in omega (arith, same, lt)

abbrev numbered : ℕ → TypeId
numbered i = record { 0 = i }

-- the types and variants that have names are in the table
pub record Covers (names : TypeNames) (table : List TypeEntry) : Type 0 where
  pub types : length names.types ≤ length table
  pub variants : (ty : TypeId) (name : List ℕ) (v : VariantId) → variant_named names ty name ≡ Some v → KnowsVariant table v

module _ (names : TypeNames) (types : List TypeEntry) (covers : Covers names types) where
  pub type-known : (ty : Name) → type_fault names ty ≡ None → KnowsType types (type_or_first names ty)
  unfolding type_fault
  type-known ty none = by (place_of ty.bytes names.types) refl (needed _ _ _ none)
    where
      by : (o : Option ℕ) → place_of ty.bytes names.types ≡ o → is_some (option_map numbered o) ≡ true →
          (unwrap_or (option_map numbered o) (record { 0 = 0 })).0 < length types
      by None at some = absurd (cc)
      by (Some i) at some = let low = position-within _ names.types i at in let more = covers.types in omega (arith, low, more)

  pub variant-known : (ty v : Name) → variant_fault names ty v ≡ None → KnowsVariant types (variant_or_first names (type_or_first names ty) v)
  unfolding variant_fault
  variant-known ty v none =
      by (variant_named names (type_or_first names ty) v.bytes) refl (needed _ _ _ (both _ _ none).1)
    where
      by : (o : Option VariantId) → variant_named names (type_or_first names ty) v.bytes ≡ o → is_some o ≡ true →
          KnowsVariant types (unwrap_or o (record { ty = type_or_first names ty; index = 0 }))
      by None at some = absurd (cc)
      by (Some found) at some = covers.variants (type_or_first names ty) v.bytes found at

  -- ---- the forms of routes

  knows : along.Route → Bool
  knows = folds.fold-Route Bool (knows_node types)

  by-form : (r : along.Route) (x : open_along.Route-F along.Route) → r ≡ along.roll-Route x →
      IsTrue (knows_node types (folds.map-Route along.Route Bool (folds.fold-Route Bool (knows_node types)) x)) → KnowsRoute types r
  by-form r x is known =
      subst IsTrue (sym (ap (folds.fold-Route Bool (knows_node types)) is ∙ folds.fold-roll-Route Bool (knows_node types) x)) known

  all-of : (a b : Bool) → IsTrue a → IsTrue b → IsTrue (a && b)
  all-of a b f g = grind arith

  joined-known : (c : Chain) (r s : along.Route) → KnowsRoute types r → KnowsRoute types s → KnowsRoute types (joined c r s)
  joined-known chain.Then r s first second = by-form _ (open_along.Route-F.Then r s) (sym (route.rolls-Then r s)) (all-of _ _ first second)
  joined-known chain.Or r s first second = by-form _ (open_along.Route-F.Or r s) (sym (route.rolls-Or r s)) (all-of _ _ first second)

  chained-known : (c : Chain) (r : along.Route) (rs : List along.Route) → KnowsRoute types r → AllByRecursion (KnowsRoute types) rs →
      KnowsRoute types (chained c r rs)
  chained-known c r [] first others = first
  chained-known c r (s ∷ rs) first others = chained-known c (joined c r s) rs (joined-known c r s first others.0) others.1

  starred-known : (r : along.Route) (stars : List Pos) → KnowsRoute types r → KnowsRoute types (starred r stars)
  starred-known r [] known = known
  starred-known r (star ∷ stars) known =
      starred-known (route.Star r) stars (by-form _ (open_along.Route-F.Star r) (sym (route.rolls-Star r)) known)

  module _ (follows : Followed) where
    IsKnown : Route → Type 0
    IsKnown r = route_fault names follows r ≡ None → KnowsRoute types (route_of names r)

    each-known : (others : List ((r : Route) × IsKnown r)) → first_of (λ f. f) (map (route_fault names follows) (map (λ e. e.0) others)) ≡ None →
        AllByRecursion (KnowsRoute types) (map (route_of names) (map (λ e. e.0) others))
    unfolding IsKnown
    each-known [] none = tt
    each-known (e ∷ others) none = let parts = both _ _ none in (e.1 parts.0, each-known others parts.1)

    node-known : (y : Route-F ((r : Route) × IsKnown r)) →
        route_rules names follows (map-Route Route Fault (route_fault names follows) (map-Route ((r : Route) × IsKnown r) Route (λ e. e.0) y)) ≡ None →
        KnowsRoute types (route_node names (map-Route Route along.Route (route_of names) (map-Route ((r : Route) × IsKnown r) Route (λ e. e.0) y)))
    unfolding IsKnown
    node-known (Route-F.Down f) none = by-form _ (open_along.Route-F.Down f.bytes) (sym (route.rolls-Down f.bytes)) refl
    node-known (Route-F.Up f) none = by-form _ (open_along.Route-F.Up f.bytes) (sym (route.rolls-Up f.bytes)) refl
    node-known Route-F.UpAny none = by-form _ open_along.Route-F.UpAny (sym route.rolls-UpAny) refl
    node-known Route-F.Root none = by-form _ open_along.Route-F.Root (sym route.rolls-Root) refl
    node-known Route-F.Leaf none = by-form _ open_along.Route-F.Leaf (sym route.rolls-Leaf) refl
    node-known (Route-F.IsType ty) none =
        let lt : (type_or_first names ty).0 < length types = type-known ty none in
        by-form _ (open_along.Route-F.IsType (type_or_first names ty)) (sym (route.rolls-IsType (type_or_first names ty))) (grind arith)
    node-known (Route-F.IsVariant ty v) none =
        let found = variant_or_first names (type_or_first names ty) v in
        let lt : KnowsVariant types found = variant-known ty v none in
        by-form _ (open_along.Route-F.IsVariant found) (sym (route.rolls-IsVariant found)) (grind arith)
    node-known (Route-F.IsBool f truth) none = by-form _ (open_along.Route-F.IsBool f.bytes truth) (sym (route.rolls-IsBool f.bytes truth)) refl
    node-known (Route-F.Then first others) none =
        let parts = both _ _ none in chained-known chain.Then (route_of names first.0) _ (first.1 parts.0) (each-known others parts.1)
    node-known (Route-F.Or first others) none =
        let parts = both _ _ none in chained-known chain.Or (route_of names first.0) _ (first.1 parts.0) (each-known others parts.1)
    node-known (Route-F.Star round stars) none = starred-known (route_of names round.0) stars (round.1 none)

    pub route-known : (r : Route) → route_fault names follows r ≡ None → KnowsRoute types (route_of names r)
    unfolding IsKnown
    route-known = ind-Route IsKnown (λ x y is none.
        subst (KnowsRoute types) (sym (route_form names _ x refl))
        (subst (λ z. route_rules names follows (map-Route Route Fault (route_fault names follows) z) ≡ None →
        KnowsRoute types (route_node names (map-Route Route along.Route (route_of names) z))) is (node-known y)
        (sym (fault_form names follows _ x refl) ∙ none)))
