-- A route that fits knows its types and variants.
use Rattle.std.proofs.Common.{◌≡◌, Bool, IsTrue, List, length, sym, ap, refl, ◌∙◌}
use mathlib.Core.Path.{transport}
use Rattle.std.proofs.lemmas.Bool.{lt-ltb, and_from}
use Rattle.store_core.specs.declared.kind.Route.{Route, roll-Route}
use Rattle.store_core.specs.declared.kind.Route.TheVariants as route
use Rattle.store_core.specs.declared.kind.Route.TheVariants.{rolls-Down, rolls-Up, rolls-UpAny, rolls-Root, rolls-Leaf, rolls-IsType, rolls-IsVariant}
use Rattle.store_core.specs.declared.kind.Route.TheVariants.{rolls-IsBool, rolls-Then, rolls-Or, rolls-Star}
use Rattle.store_core.specs.declared.kind.Route.TheOpen.{Route-F}
use Rattle.store_core.specs.declared.kind.Route.TheFolds.{fold-Route, fold-roll-Route, rec-roll-Route, map-Route}
use Rattle.store_core.specs.Tables.{TypeEntry, KnowsRoute, knows_node, variant_count}
use Rattle.routing_walks.proofs.RouteLemmas.{IsHereditary, route-induction}
use Rattle.store_logic.specs.Fits.{RouteFitsNode, RouteFits}

module _ (types : List TypeEntry) where
  natural : (Part : Type 0) (whole : Part → Route) (fits : Route → Type 0) (x : Route-F Part) →
      RouteFitsNode types Part whole (λ p. fits (whole p)) x ≡ RouteFitsNode types Route (λ r. r) fits (map-Route Part Route whole x)
  natural Part whole fits (Route-F.Down name) = refl
  natural Part whole fits (Route-F.Up name) = refl
  natural Part whole fits Route-F.UpAny = refl
  natural Part whole fits Route-F.Root = refl
  natural Part whole fits Route-F.Leaf = refl
  natural Part whole fits (Route-F.IsType ty) = refl
  natural Part whole fits (Route-F.IsVariant v) = refl
  natural Part whole fits (Route-F.IsBool name truth) = refl
  natural Part whole fits (Route-F.Then first second) = refl
  natural Part whole fits (Route-F.Or one other) = refl
  natural Part whole fits (Route-F.Star round) = refl

  -- the parts of a route of this form that fits
  of_form : (along : Route) (x : Route-F Route) → roll-Route x ≡ along → RouteFits types along → RouteFitsNode types Route (λ r. r) (RouteFits types) x
  of_form along x e = transport (λ i. (ap (RouteFits types) (sym e) ∙ rec-roll-Route (Type 0) (RouteFitsNode types) natural x) i)

  abbrev knows : Route → Bool
  knows = fold-Route Bool (knows_node types)

  known : (along : Route) (x : Route-F Route) → roll-Route x ≡ along → IsTrue (knows_node types (map-Route Route Bool knows x)) → KnowsRoute types along
  known along x e h = ap knows (sym e) ∙ fold-roll-Route Bool (knows_node types) x ∙ h

  IsKnown : Route → Type 0
  IsKnown along = RouteFits types along → KnowsRoute types along

  hereditary : IsHereditary IsKnown
  unfolding IsKnown
  hereditary = record {
    of_Down = λ name fits. known (route.Down name) (Route-F.Down name) (rolls-Down name) refl;
    of_Up = λ name fits. known (route.Up name) (Route-F.Up name) (rolls-Up name) refl;
    of_UpAny = λ fits. known route.UpAny Route-F.UpAny rolls-UpAny refl;
    of_Root = λ fits. known route.Root Route-F.Root rolls-Root refl;
    of_Leaf = λ fits. known route.Leaf Route-F.Leaf rolls-Leaf refl;
    of_IsType = λ ty fits. known (route.IsType ty) (Route-F.IsType ty) (rolls-IsType ty)
        (lt-ltb ty.0 (length types) (of_form (route.IsType ty) (Route-F.IsType ty) (rolls-IsType ty) fits));
    of_IsVariant = λ v fits. known (route.IsVariant v) (Route-F.IsVariant v) (rolls-IsVariant v)
        (lt-ltb v.index (variant_count types v.ty) (of_form (route.IsVariant v) (Route-F.IsVariant v) (rolls-IsVariant v) fits));
    of_IsBool = λ name truth fits. known (route.IsBool name truth) (Route-F.IsBool name truth) (rolls-IsBool name truth) refl;
    of_Then = λ first second one two fits.
        let parts = of_form (route.Then first second) (Route-F.Then first second) (rolls-Then first second) fits in
        known (route.Then first second) (Route-F.Then first second) (rolls-Then first second)
        (and_from (knows first) (knows second) (one parts.0) (two parts.1));
    of_Or = λ first second one two fits.
        let parts = of_form (route.Or first second) (Route-F.Or first second) (rolls-Or first second) fits in
        known (route.Or first second) (Route-F.Or first second) (rolls-Or first second)
        (and_from (knows first) (knows second) (one parts.0) (two parts.1));
    of_Star = λ round each fits.
        known (route.Star round) (Route-F.Star round) (rolls-Star round)
        (each (of_form (route.Star round) (Route-F.Star round) (rolls-Star round) fits));
  }

  pub fitting-known : (along : Route) → RouteFits types along → KnowsRoute types along
  unfolding IsKnown
  fitting-known = route-induction IsKnown hereditary
