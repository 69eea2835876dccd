-- Routes, form by form: their faults, and what they stand for.
use Rattle.std.proofs.Common.{◌≡◌, ℕ, Bool, List, [], ◌∷◌, map, None, ◌+◌, ◌<◌, zero, suc, length, drop, arith, refl, sym, ap, ◌∙◌}
use Rattle.pale_text.specs.declared.place.Pos.{Pos}
use Rattle.pale_syntax.specs.declared.tree.names.Name.{Name}
use Rattle.pale_syntax.specs.declared.tree.route.Route.{Route, roll-Route}
use Rattle.pale_syntax.specs.declared.tree.route.Route.TheVariants.{Down, Up, UpAny, Root, Leaf, IsType, IsVariant, IsBool, Then}
use Rattle.pale_syntax.specs.declared.tree.route.Route.TheVariants.{Or, Star, rolls-Down, rolls-Up, rolls-UpAny, rolls-Root}
use Rattle.pale_syntax.specs.declared.tree.route.Route.TheVariants.{rolls-Leaf, rolls-IsType, rolls-IsVariant, rolls-IsBool}
use Rattle.pale_syntax.specs.declared.tree.route.Route.TheVariants.{rolls-Then, rolls-Or, rolls-Star}
use Rattle.pale_syntax.specs.declared.tree.route.Route.TheOpen.{Route-F}
use Rattle.pale_syntax.specs.declared.tree.route.Route.TheFolds.{map-Route, fold-roll-Route}
use Rattle.store_core.specs.declared.kind.Route as along
use Rattle.pale_tables.specs.declared.type_names.TypeNames.{TypeNames}
use Rattle.pale_tables.specs.declared.type_names.Followed.{Followed}
use Rattle.pale_tables.specs.Faults.{Fault, ◌>>◌, first_of}
use Rattle.store_core.specs.declared.kind.Route.TheVariants as route
use Rattle.pale_tables.specs.declared.routes.Chain.TheVariants as chain
use Rattle.pale_tables.specs.Routes.{route_rules, route_fault, route_node, route_of, followed_fault, bool_fault, type_fault, variant_fault}
use Rattle.pale_tables.specs.Routes.{type_or_first, variant_or_first, chained, starred}

pub fault_form : (names : TypeNames) (follows : Followed) (r : Route) (x : Route-F Route) → r ≡ roll-Route x →
    route_fault names follows r ≡ route_rules names follows (map-Route Route Fault (route_fault names follows) x)
unfolding route_fault
fault_form names follows r x is = ap (route_fault names follows) is ∙ fold-roll-Route Fault (route_rules names follows) x

pub route_form : (names : TypeNames) (r : Route) (x : Route-F Route) → r ≡ roll-Route x →
    route_of names r ≡ route_node names (map-Route Route along.Route (route_of names) x)
unfolding route_of
route_form names r x is = ap (route_of names) is ∙ fold-roll-Route along.Route (route_node names) x

-- the faults of a list of routes, each from its tree
pub each_fault : (fault : Route → Fault) (others : List Route) → first_of (λ next. next) (map fault others) ≡ first_of fault others
each_fault fault [] = refl
each_fault fault (r ∷ others) = ap (λ rest. fault r >> rest) (each_fault fault others)

-- ---- each form

pub fault-Down : (names : TypeNames) (follows : Followed) (f : Name) → route_fault names follows (Down f) ≡ followed_fault names follows f
fault-Down names follows f = fault_form names follows _ (Route-F.Down f) (sym (rolls-Down f))

pub of-Down : (names : TypeNames) (f : Name) → route_of names (Down f) ≡ route.Down f.bytes
of-Down names f = route_form names _ (Route-F.Down f) (sym (rolls-Down f))

pub fault-Up : (names : TypeNames) (follows : Followed) (f : Name) → route_fault names follows (Up f) ≡ followed_fault names follows f
fault-Up names follows f = fault_form names follows _ (Route-F.Up f) (sym (rolls-Up f))

pub of-Up : (names : TypeNames) (f : Name) → route_of names (Up f) ≡ route.Up f.bytes
of-Up names f = route_form names _ (Route-F.Up f) (sym (rolls-Up f))

pub fault-UpAny : (names : TypeNames) (follows : Followed) → route_fault names follows UpAny ≡ None
fault-UpAny names follows = fault_form names follows _ Route-F.UpAny (sym rolls-UpAny)

pub of-UpAny : (names : TypeNames) → route_of names UpAny ≡ route.UpAny
of-UpAny names = route_form names _ Route-F.UpAny (sym rolls-UpAny)

pub fault-Root : (names : TypeNames) (follows : Followed) → route_fault names follows Root ≡ None
fault-Root names follows = fault_form names follows _ Route-F.Root (sym rolls-Root)

pub of-Root : (names : TypeNames) → route_of names Root ≡ route.Root
of-Root names = route_form names _ Route-F.Root (sym rolls-Root)

pub fault-Leaf : (names : TypeNames) (follows : Followed) → route_fault names follows Leaf ≡ None
fault-Leaf names follows = fault_form names follows _ Route-F.Leaf (sym rolls-Leaf)

pub of-Leaf : (names : TypeNames) → route_of names Leaf ≡ route.Leaf
of-Leaf names = route_form names _ Route-F.Leaf (sym rolls-Leaf)

pub fault-IsType : (names : TypeNames) (follows : Followed) (ty : Name) → route_fault names follows (IsType ty) ≡ type_fault names ty
fault-IsType names follows ty = fault_form names follows _ (Route-F.IsType ty) (sym (rolls-IsType ty))

pub of-IsType : (names : TypeNames) (ty : Name) → route_of names (IsType ty) ≡ route.IsType (type_or_first names ty)
of-IsType names ty = route_form names _ (Route-F.IsType ty) (sym (rolls-IsType ty))

pub fault-IsVariant : (names : TypeNames) (follows : Followed) (ty v : Name) → route_fault names follows (IsVariant ty v) ≡ variant_fault names ty v
fault-IsVariant names follows ty v = fault_form names follows _ (Route-F.IsVariant ty v) (sym (rolls-IsVariant ty v))

pub of-IsVariant : (names : TypeNames) (ty v : Name) → route_of names (IsVariant ty v) ≡ route.IsVariant (variant_or_first names (type_or_first names ty) v)
of-IsVariant names ty v = route_form names _ (Route-F.IsVariant ty v) (sym (rolls-IsVariant ty v))

pub fault-IsBool : (names : TypeNames) (follows : Followed) (f : Name) (truth : Bool) → route_fault names follows (IsBool f truth) ≡ bool_fault names f
fault-IsBool names follows f truth = fault_form names follows _ (Route-F.IsBool f truth) (sym (rolls-IsBool f truth))

pub of-IsBool : (names : TypeNames) (f : Name) (truth : Bool) → route_of names (IsBool f truth) ≡ route.IsBool f.bytes truth
of-IsBool names f truth = route_form names _ (Route-F.IsBool f truth) (sym (rolls-IsBool f truth))

pub fault-Then : (names : TypeNames) (follows : Followed) (first : Route) (others : List Route) →
    route_fault names follows (Then first others) ≡ (route_fault names follows first >> first_of (route_fault names follows) others)
fault-Then names follows first others =
    fault_form names follows _ (Route-F.Then first others) (sym (rolls-Then first others))
    ∙ ap (λ rest. route_fault names follows first >> rest) (each_fault (route_fault names follows) others)

pub of-Then : (names : TypeNames) (first : Route) (others : List Route) →
    route_of names (Then first others) ≡ chained chain.Then (route_of names first) (map (route_of names) others)
of-Then names first others = route_form names _ (Route-F.Then first others) (sym (rolls-Then first others))

pub fault-Or : (names : TypeNames) (follows : Followed) (first : Route) (others : List Route) →
    route_fault names follows (Or first others) ≡ (route_fault names follows first >> first_of (route_fault names follows) others)
fault-Or names follows first others =
    fault_form names follows _ (Route-F.Or first others) (sym (rolls-Or first others))
    ∙ ap (λ rest. route_fault names follows first >> rest) (each_fault (route_fault names follows) others)

pub of-Or : (names : TypeNames) (first : Route) (others : List Route) →
    route_of names (Or first others) ≡ chained chain.Or (route_of names first) (map (route_of names) others)
of-Or names first others = route_form names _ (Route-F.Or first others) (sym (rolls-Or first others))

pub fault-Star : (names : TypeNames) (follows : Followed) (round : Route) (stars : List Pos) →
    route_fault names follows (Star round stars) ≡ route_fault names follows round
fault-Star names follows round stars = fault_form names follows _ (Route-F.Star round stars) (sym (rolls-Star round stars))

pub of-Star : (names : TypeNames) (round : Route) (stars : List Pos) → route_of names (Star round stars) ≡ starred (route_of names round) stars
of-Star names round stars = route_form names _ (Route-F.Star round stars) (sym (rolls-Star round stars))

-- each form
pub ruleset route_forms = (
  fault-Down,
  of-Down,
  fault-Up,
  of-Up,
  fault-UpAny,
  of-UpAny,
  fault-Root,
  of-Root,
  fault-Leaf,
  of-Leaf,
  fault-IsType,
  of-IsType,
  fault-IsVariant,
  of-IsVariant,
  fault-IsBool,
  of-IsBool,
  fault-Then,
  of-Then,
  fault-Or,
  of-Or,
  fault-Star,
  of-Star,
)

-- one star of those that are left
pub star-next : (r : along.Route) (stars : List Pos) (i : ℕ) → i < length stars → starred r (drop i stars) ≡ starred (route.Star r) (drop (i + 1) stars)
star-next r [] i in_range = absurd (grind arith)
star-next r (star ∷ stars) zero in_range = refl
star-next r (star ∷ stars) (suc i) in_range =
    let same : suc (i + 1) ≡ suc i + 1 = omega arith in
    star-next r stars i (grind arith) ∙ ap (λ n. starred (route.Star r) (drop n (star ∷ stars))) same
