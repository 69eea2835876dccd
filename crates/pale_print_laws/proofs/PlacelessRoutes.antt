-- What the acts that join routes make, without places.
use Rattle.std.proofs.Common.{◌≡◌, [], ◌∷◌, ◌++◌, refl, sym, ap, ◌∙◌}
use Rattle.pale_text.specs.declared.place.Pos.{Pos}
use Rattle.pale_syntax.specs.declared.tree.route.Route.{Route, roll-Route, out-roll-Route}
use Rattle.pale_syntax.specs.declared.tree.route.Route.TheVariants as route
use Rattle.pale_syntax.specs.declared.tree.route.Route.TheOpen.{Route-F}
use Rattle.pale_syntax.specs.declared.tree.route.Route.TheFolds.{map-Route}
use Rattle.pale_syntax.specs.MakingRoutes.{then_by, or_by, star_by, joined_then, joined_or, starred, tested_by, tested_type}
use Rattle.pale_print.specs.Placeless.{nowhere, placeless_name, placeless_route}
use Rattle.pale_print_laws.proofs.StackLemmas.{map-last}
use Rattle.pale_print_laws.proofs.PlacelessForms.{route-Then, route-Or, route-Star}
use Rattle.pale_print_laws.proofs.RouteShapes.{opened_route, shape, placeless-out}

then_by-placeless : (x : Route-F Route) (one : Route) (other : Route) →
    placeless_route (then_by x one other) ≡ then_by (shape (map-Route Route Route placeless_route x)) (placeless_route one) (placeless_route other)
unfolding shape
then_by-placeless (Route-F.Then first others) one other =
    route-Then first (others ++ other ∷ []) ∙ ap (route.Then (placeless_route first)) (map-last placeless_route others other)
then_by-placeless _ one other = route-Then one (other ∷ [])

pub joined_then-placeless : (one : Route) (other : Route) → placeless_route (joined_then one other) ≡ joined_then (placeless_route one) (placeless_route other)
joined_then-placeless =
    opened_route
    (λ one. (other : Route) → placeless_route (joined_then one other) ≡ joined_then (placeless_route one) (placeless_route other))
    (λ x other.
    ap (λ (n : Route-F Route). placeless_route (then_by n (roll-Route x) other)) (out-roll-Route x) ∙ then_by-placeless x (roll-Route x) other
    ∙ sym (ap (λ (n : Route-F Route). then_by n (placeless_route (roll-Route x)) (placeless_route other)) (placeless-out x)))

or_by-placeless : (x : Route-F Route) (one : Route) (other : Route) →
    placeless_route (or_by x one other) ≡ or_by (shape (map-Route Route Route placeless_route x)) (placeless_route one) (placeless_route other)
unfolding shape
or_by-placeless (Route-F.Or first others) one other =
    route-Or first (others ++ other ∷ []) ∙ ap (route.Or (placeless_route first)) (map-last placeless_route others other)
or_by-placeless _ one other = route-Or one (other ∷ [])

pub joined_or-placeless : (one : Route) (other : Route) → placeless_route (joined_or one other) ≡ joined_or (placeless_route one) (placeless_route other)
joined_or-placeless =
    opened_route
    (λ one. (other : Route) → placeless_route (joined_or one other) ≡ joined_or (placeless_route one) (placeless_route other))
    (λ x other.
    ap (λ (n : Route-F Route). placeless_route (or_by n (roll-Route x) other)) (out-roll-Route x) ∙ or_by-placeless x (roll-Route x) other
    ∙ sym (ap (λ (n : Route-F Route). or_by n (placeless_route (roll-Route x)) (placeless_route other)) (placeless-out x)))

star_by-placeless : (x : Route-F Route) (one : Route) (other : Pos) →
    placeless_route (star_by x one other) ≡ star_by (shape (map-Route Route Route placeless_route x)) (placeless_route one) nowhere
unfolding shape
star_by-placeless (Route-F.Star first others) one other =
    route-Star first (others ++ other ∷ []) ∙ ap (route.Star (placeless_route first)) (map-last (λ place. nowhere) others other)
star_by-placeless _ one other = route-Star one (other ∷ [])

pub starred-placeless : (one : Route) (other : Pos) → placeless_route (starred one other) ≡ starred (placeless_route one) nowhere
starred-placeless = opened_route (λ one. (other : Pos) → placeless_route (starred one other) ≡ starred (placeless_route one) nowhere) (λ x other.
    ap (λ (n : Route-F Route). placeless_route (star_by n (roll-Route x) other)) (out-roll-Route x) ∙ star_by-placeless x (roll-Route x) other
    ∙ sym (ap (λ (n : Route-F Route). star_by n (placeless_route (roll-Route x)) nowhere) (placeless-out x)))

tested_by-placeless : (x : Route-F Route) → placeless_name (tested_by x) ≡ tested_by (shape (map-Route Route Route placeless_route x))
unfolding shape
tested_by-placeless (Route-F.IsType ty) = refl
tested_by-placeless _ = refl

pub tested_type-placeless : (one : Route) → placeless_name (tested_type one) ≡ tested_type (placeless_route one)
tested_type-placeless = opened_route (λ one. placeless_name (tested_type one) ≡ tested_type (placeless_route one)) (λ x.
    ap (λ (n : Route-F Route). placeless_name (tested_by n)) (out-roll-Route x) ∙ tested_by-placeless x ∙ sym (ap tested_by (placeless-out x)))
