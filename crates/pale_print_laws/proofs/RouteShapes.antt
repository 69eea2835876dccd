-- Routes that are opened: what the acts that join them make.
use Rattle.std.proofs.Common.{◌≡◌, false, List, [], ◌∷◌, ◌++◌, map, refl, sym, ap, ◌∙◌}
use Rattle.pale_text.specs.declared.place.Pos.{Pos}
use Rattle.pale_syntax.specs.declared.tree.names.Name.{Name}
use Rattle.pale_syntax.specs.declared.tree.route.Route.{Route, out-Route, roll-Route, out-roll-Route}
use Rattle.pale_syntax.specs.declared.tree.route.Route.TheVariants as route
use Rattle.pale_syntax.specs.declared.tree.route.Route.TheVariants.{rolls-Down, rolls-Up, rolls-UpAny, rolls-Root, rolls-Leaf}
use Rattle.pale_syntax.specs.declared.tree.route.Route.TheVariants.{rolls-IsType, rolls-IsVariant, rolls-IsBool, rolls-Then}
use Rattle.pale_syntax.specs.declared.tree.route.Route.TheVariants.{rolls-Or, rolls-Star}
use Rattle.pale_syntax.specs.declared.tree.route.Route.TheOpen.{Route-F}
use Rattle.pale_syntax.specs.declared.tree.route.Route.TheFolds.{fold-roll-Route, ind-Route, map-Route}
use Rattle.pale_syntax.specs.MakingRoutes.{joined_or, joined_then, or_by, star_by, starred, tested_by, tested_type, then_by}
use Rattle.pale_print.specs.Placeless.{nowhere, placeless_name, placeless_route, placeless_route_node, placeless_route}
use Rattle.pale_print_laws.specs.CanonicalRoutes.{is_then_node, is_or_node, is_star_node}

-- what is known of every opened route is known of every route
pub opened_route : (P : Route → Type 0) → ((x : Route-F Route) → P (roll-Route x)) → (r : Route) → P r
opened_route P h = ind-Route P (λ x y is. h x)

-- an opened route without its places
unfoldable pub shape : Route-F Route → Route-F Route
shape (Route-F.Down f) = Route-F.Down (placeless_name f)
shape (Route-F.Up f) = Route-F.Up (placeless_name f)
shape Route-F.UpAny = Route-F.UpAny
shape Route-F.Root = Route-F.Root
shape Route-F.Leaf = Route-F.Leaf
shape (Route-F.IsType ty) = Route-F.IsType (placeless_name ty)
shape (Route-F.IsVariant ty variant) = Route-F.IsVariant (placeless_name ty) (placeless_name variant)
shape (Route-F.IsBool f value) = Route-F.IsBool (placeless_name f) value
shape (Route-F.Then first others) = Route-F.Then first others
shape (Route-F.Or first others) = Route-F.Or first others
shape (Route-F.Star inner places) = Route-F.Star inner (map (λ place. nowhere) places)

rolled : (x : Route-F Route) → placeless_route_node x ≡ roll-Route (shape x)
unfolding shape
rolled (Route-F.Down f) = sym (rolls-Down (placeless_name f))
rolled (Route-F.Up f) = sym (rolls-Up (placeless_name f))
rolled Route-F.UpAny = sym (rolls-UpAny)
rolled Route-F.Root = sym (rolls-Root)
rolled Route-F.Leaf = sym (rolls-Leaf)
rolled (Route-F.IsType ty) = sym (rolls-IsType (placeless_name ty))
rolled (Route-F.IsVariant ty variant) = sym (rolls-IsVariant (placeless_name ty) (placeless_name variant))
rolled (Route-F.IsBool f value) = sym (rolls-IsBool (placeless_name f) value)
rolled (Route-F.Then first others) = sym (rolls-Then first others)
rolled (Route-F.Or first others) = sym (rolls-Or first others)
rolled (Route-F.Star inner places) = sym (rolls-Star inner (map (λ place. nowhere) places))

pub placeless-out : (x : Route-F Route) → out-Route (placeless_route (roll-Route x)) ≡ shape (map-Route Route Route placeless_route x)
unfolding placeless_route
placeless-out x = ap out-Route (fold-roll-Route Route placeless_route_node x ∙ rolled (map-Route Route Route placeless_route x)) ∙ out-roll-Route _

then_by-first : (x : Route-F Route) → is_then_node x ≡ false → (one : Route) (other : Route) → then_by x one other ≡ route.Then one (other ∷ [])
then_by-first (Route-F.Then first others) is one other = absurd (cc is)
then_by-first _ is one other = refl

is_then_node-shape : (x : Route-F Route) → is_then_node (shape (map-Route Route Route placeless_route x)) ≡ is_then_node x
unfolding shape
is_then_node-shape (Route-F.Then first others) = refl
is_then_node-shape _ = refl

pub joined_then-first : (first : Route) → is_then_node (out-Route first) ≡ false → (other : Route) →
    joined_then (placeless_route first) other ≡ route.Then (placeless_route first) (other ∷ [])
joined_then-first =
    opened_route (λ first. is_then_node (out-Route first) ≡ false → (other : Route) → joined_then (placeless_route first) other
    ≡ route.Then (placeless_route first) (other ∷ [])) (λ x is other.
    then_by-first (out-Route (placeless_route (roll-Route x)))
    (ap is_then_node (placeless-out x) ∙ is_then_node-shape x ∙ sym (ap is_then_node (out-roll-Route x)) ∙ is) (placeless_route (roll-Route x)) other)

pub joined_then-more : (first : Route) (done : List Route) (other : Route) → joined_then (route.Then first done) other ≡ route.Then first (done ++ other ∷ [])
joined_then-more first done other =
    ap (λ (x : Route-F Route). then_by x (route.Then first done) other)
    (ap out-Route (sym (rolls-Then first done)) ∙ out-roll-Route _)

or_by-first : (x : Route-F Route) → is_or_node x ≡ false → (one : Route) (other : Route) → or_by x one other ≡ route.Or one (other ∷ [])
or_by-first (Route-F.Or first others) is one other = absurd (cc is)
or_by-first _ is one other = refl

is_or_node-shape : (x : Route-F Route) → is_or_node (shape (map-Route Route Route placeless_route x)) ≡ is_or_node x
unfolding shape
is_or_node-shape (Route-F.Or first others) = refl
is_or_node-shape _ = refl

pub joined_or-first : (first : Route) → is_or_node (out-Route first) ≡ false → (other : Route) →
    joined_or (placeless_route first) other ≡ route.Or (placeless_route first) (other ∷ [])
joined_or-first =
    opened_route (λ first. is_or_node (out-Route first) ≡ false → (other : Route) → joined_or (placeless_route first) other
    ≡ route.Or (placeless_route first) (other ∷ [])) (λ x is other.
    or_by-first (out-Route (placeless_route (roll-Route x)))
    (ap is_or_node (placeless-out x) ∙ is_or_node-shape x ∙ sym (ap is_or_node (out-roll-Route x)) ∙ is) (placeless_route (roll-Route x)) other)

pub joined_or-more : (first : Route) (done : List Route) (other : Route) → joined_or (route.Or first done) other ≡ route.Or first (done ++ other ∷ [])
joined_or-more first done other = ap (λ (x : Route-F Route). or_by x (route.Or first done) other) (ap out-Route (sym (rolls-Or first done)) ∙ out-roll-Route _)

star_by-first : (x : Route-F Route) → is_star_node x ≡ false → (one : Route) (place : Pos) → star_by x one place ≡ route.Star one (place ∷ [])
star_by-first (Route-F.Star first others) is one place = absurd (cc is)
star_by-first _ is one place = refl

is_star_node-shape : (x : Route-F Route) → is_star_node (shape (map-Route Route Route placeless_route x)) ≡ is_star_node x
unfolding shape
is_star_node-shape (Route-F.Star first others) = refl
is_star_node-shape _ = refl

pub starred-first : (first : Route) → is_star_node (out-Route first) ≡ false → (place : Pos) →
    starred (placeless_route first) place ≡ route.Star (placeless_route first) (place ∷ [])
starred-first =
    opened_route (λ first. is_star_node (out-Route first) ≡ false → (place : Pos) → starred (placeless_route first) place
    ≡ route.Star (placeless_route first) (place ∷ [])) (λ x is place.
    star_by-first (out-Route (placeless_route (roll-Route x)))
    (ap is_star_node (placeless-out x) ∙ is_star_node-shape x ∙ sym (ap is_star_node (out-roll-Route x)) ∙ is) (placeless_route (roll-Route x)) place)

pub starred-more : (first : Route) (done : List Pos) (place : Pos) → starred (route.Star first done) place ≡ route.Star first (done ++ place ∷ [])
starred-more first done place =
    ap (λ (x : Route-F Route). star_by x (route.Star first done) place)
    (ap out-Route (sym (rolls-Star first done)) ∙ out-roll-Route _)

pub tested-type : (ty : Name) → tested_type (route.IsType ty) ≡ ty
tested-type ty = ap tested_by (ap out-Route (sym (rolls-IsType ty)) ∙ out-roll-Route _)
