-- Routes in postfix order: each form after its parts. (Reverse Polish notation.)
use Rattle.std.specs.Prelude.{ℕ, ◌+◌, List, [], ◌∷◌, ◌++◌, flat_map, Option, Some, None, option_map, sum_by}
use Rattle.std.specs.Option.{option_and_then}
use Rattle.store_core.specs.declared.kind.Route.{Route, out-Route, roll-Route}
use Rattle.store_core.specs.declared.kind.Route.TheOpen.{Route-F}
use Rattle.store_core.specs.declared.kind.Route.TheFolds.{fold-Route, map-Route}

-- a form of a route, without its parts
abbrev pub Form : Type 0
Form = Route-F (Unit {0})

-- the same of what has parts
abbrev pub without_parts : (Part : Type 0) → Route-F Part → Form
without_parts Part node = map-Route Part (Unit {0}) (λ part. tt) node

-- the form of a route
abbrev pub form_of : Route → Form
form_of along = without_parts Route (out-Route along)

-- the parts, from the left
abbrev pub parts_of : (Part : Type 0) → Route-F Part → List Part
parts_of Part (Route-F.Down name) = []
parts_of Part (Route-F.Up name) = []
parts_of Part Route-F.UpAny = []
parts_of Part Route-F.Root = []
parts_of Part Route-F.Leaf = []
parts_of Part (Route-F.IsType ty) = []
parts_of Part (Route-F.IsVariant v) = []
parts_of Part (Route-F.IsBool name truth) = []
parts_of Part (Route-F.Then first second) = first ∷ second ∷ []
parts_of Part (Route-F.Or one other) = one ∷ other ∷ []
parts_of Part (Route-F.Star round) = round ∷ []

abbrev pub postfix_of_node : Route-F (List Form) → List Form
postfix_of_node node = flat_map (λ part. part) (parts_of (List Form) node) ++ without_parts (List Form) node ∷ []

-- the forms of the route and of its parts, each after those of its own parts
abbrev pub postfix_of : Route → List Form
postfix_of = fold-Route (List Form) postfix_of_node

abbrev pub form_count_of_node : Route-F ℕ → ℕ
form_count_of_node node = sum_by (λ part. part) (parts_of ℕ node) + 1

-- how many forms a route is made of
abbrev pub form_count : Route → ℕ
form_count = fold-Route ℕ form_count_of_node

-- the form with the last routes as its parts, and the routes before them; the last one comes first
abbrev pub taken : Form → List Route → Option (Route-F Route × List Route)
taken (Route-F.Down name) routes = Some (Route-F.Down name, routes)
taken (Route-F.Up name) routes = Some (Route-F.Up name, routes)
taken Route-F.UpAny routes = Some (Route-F.UpAny, routes)
taken Route-F.Root routes = Some (Route-F.Root, routes)
taken Route-F.Leaf routes = Some (Route-F.Leaf, routes)
taken (Route-F.IsType ty) routes = Some (Route-F.IsType ty, routes)
taken (Route-F.IsVariant v) routes = Some (Route-F.IsVariant v, routes)
taken (Route-F.IsBool name truth) routes = Some (Route-F.IsBool name truth, routes)
taken (Route-F.Then first second) (r ∷ q ∷ routes) = Some (Route-F.Then q r, routes)
taken (Route-F.Then first second) (r ∷ []) = None
taken (Route-F.Then first second) [] = None
taken (Route-F.Or one other) (r ∷ q ∷ routes) = Some (Route-F.Or q r, routes)
taken (Route-F.Or one other) (r ∷ []) = None
taken (Route-F.Or one other) [] = None
taken (Route-F.Star round) (r ∷ routes) = Some (Route-F.Star r, routes)
taken (Route-F.Star round) [] = None

-- the routes after a form took its parts and the route of both came in their place, the last first
abbrev pub applied : Form → List Route → Option (List Route)
applied form routes = option_map (λ found. roll-Route found.0 ∷ found.1) (taken form routes)

-- the routes after all forms
abbrev pub run_on : List Form → List Route → Option (List Route)
run_on [] routes = Some routes
run_on (form ∷ forms) routes = option_and_then (λ after. run_on forms after) (applied form routes)
