-- What is made of routes.
use Rattle.std.specs.Prelude.{[], ◌∷◌, ◌++◌, true, false}
use Rattle.plain_data.specs.Stacks.{top, rest}
use Rattle.pale_syntax.specs.declared.grammar.act.RouteAct.{RouteAct}
use Rattle.pale_syntax.specs.declared.grammar.act.RouteAct.TheVariants.{Down, UpAny, NameUp, Leaf, Root, IsType, NarrowToVariant, IsTrue, IsFalse}
use Rattle.pale_syntax.specs.declared.grammar.act.RouteAct.TheVariants.{JoinThen, JoinOr, AddStar}
use Rattle.pale_text.specs.declared.place.Pos.{Pos}
use Rattle.pale_syntax.specs.declared.tree.names.Name.{Name}
use Rattle.pale_syntax.specs.declared.tree.route.Route.{Route, out-Route}
use Rattle.pale_syntax.specs.declared.tree.route.Route.TheVariants as route
use Rattle.pale_syntax.specs.declared.tree.route.Route.TheOpen.{Route-F}
use Rattle.pale_syntax.specs.MakingParts.{Parts, Near, nameless}
use Rattle.pale_text.specs.Tokens.{place_of}

-- stands where no route is known
abbrev pub routeless : Route
routeless = route.UpAny

-- the type for which a route is a test
abbrev pub tested_by : Route-F Route → Name
tested_by (Route-F.IsType name) = name
tested_by _ = nameless

abbrev pub tested_type : Route → Name
tested_type test = tested_by (out-Route test)

-- one route after the other: the second goes to the end of a chain
abbrev pub then_by : Route-F Route → Route → Route → Route
then_by (Route-F.Then first others) one other = route.Then first (others ++ other ∷ [])
then_by _ one other = route.Then one (other ∷ [])

abbrev pub joined_then : Route → Route → Route
joined_then one other = then_by (out-Route one) one other

-- either of two routes: the second goes to the end of a chain
abbrev pub or_by : Route-F Route → Route → Route → Route
or_by (Route-F.Or first others) one other = route.Or first (others ++ other ∷ [])
or_by _ one other = route.Or one (other ∷ [])

abbrev pub joined_or : Route → Route → Route
joined_or one other = or_by (out-Route one) one other

-- a route with a star at this place behind it: a second star goes to those of the first
abbrev pub star_by : Route-F Route → Route → Pos → Route
star_by (Route-F.Star inner stars) one place = route.Star inner (stars ++ place ∷ [])
star_by _ one place = route.Star one (place ∷ [])

abbrev pub starred : Route → Pos → Route
starred one place = star_by (out-Route one) one place

abbrev pub after_route : RouteAct → Near → Parts → Parts
after_route Down near parts = record parts { routes = route.Down (top nameless parts.names) ∷ parts.routes; names = rest parts.names }
after_route UpAny near parts = record parts { routes = route.UpAny ∷ parts.routes }
after_route NameUp near parts = record parts { routes = route.Up (top nameless parts.names) ∷ rest parts.routes; names = rest parts.names }
after_route Leaf near parts = record parts { routes = route.Leaf ∷ parts.routes }
after_route Root near parts = record parts { routes = route.Root ∷ parts.routes }
after_route IsType near parts = record parts { routes = route.IsType (top nameless parts.names) ∷ parts.routes; names = rest parts.names }
after_route NarrowToVariant near parts =
    record parts {
      routes = route.IsVariant (tested_type (top routeless parts.routes)) (top nameless parts.names) ∷ rest parts.routes;
      names = rest parts.names;
    }
after_route IsTrue near parts =
    record parts { routes = route.IsBool (top nameless parts.names) true ∷ parts.routes; names = rest parts.names }
after_route IsFalse near parts =
    record parts { routes = route.IsBool (top nameless parts.names) false ∷ parts.routes; names = rest parts.names }
after_route JoinThen near parts =
    record parts { routes = joined_then (top routeless (rest parts.routes)) (top routeless parts.routes) ∷ rest (rest parts.routes) }
after_route JoinOr near parts =
    record parts { routes = joined_or (top routeless (rest parts.routes)) (top routeless parts.routes) ∷ rest (rest parts.routes) }
after_route AddStar near parts = record parts { routes = starred (top routeless parts.routes) (place_of near.last) ∷ rest parts.routes }
