-- Routes whose spelling is read as they are.
use Rattle.std.specs.Prelude.{◌≡◌, ℕ, suc, nat_lt, Bool, true, false, List, [], ◌∷◌}
use Rattle.pale_text.specs.declared.place.Pos.{Pos}
use Rattle.pale_text.specs.declared.token.Mark.TheVariants as mark
use Rattle.pale_text.specs.declared.token.TokenKind.{TokenKind}
use Rattle.pale_syntax.specs.declared.tree.names.Name.{Name}
use Rattle.pale_syntax.specs.declared.tree.route.Route.{Route, out-Route}
use Rattle.pale_syntax.specs.declared.tree.route.Route.TheVariants as route
use Rattle.pale_syntax.specs.declared.tree.route.Route.TheOpen.{Route-F}
use Rattle.pale_print.specs.Tokens.{◌>>◌, sign}
use Rattle.pale_print.specs.RouteTokens.{route_tokens}
use Rattle.pale_syntax.specs.FreeNames.{IsFree}

-- where a route stands, by how tightly it has to bind there
pub data RoutePlace : Type 0 where
  whole : RoutePlace
  sequence : RoutePlace
  repeated : RoutePlace
  single : RoutePlace

abbrev pub asks : RoutePlace → ℕ
asks whole = 0
asks sequence = 1
asks repeated = 2
asks single = 3

abbrev pub is_then_node : Route-F Route → Bool
is_then_node (Route-F.Then first others) = true
is_then_node _ = false

abbrev pub is_or_node : Route-F Route → Bool
is_or_node (Route-F.Or first others) = true
is_or_node _ = false

abbrev pub is_star_node : Route-F Route → Bool
is_star_node (Route-F.Star inner places) = true
is_star_node _ = false

-- the route is spelled in parentheses there
abbrev pub IsGrouped : RoutePlace → Route → Type 0
IsGrouped p r = (after : List TokenKind) → route_tokens r (asks p) after ≡ (sign mark.LeftParen >> route_tokens r 0 >> sign mark.RightParen >> after)

mutual
  -- the route stands at this place, its spelling there opens at most so many levels, and it is read as it is: its names are
  -- names, its chains have two operands at least, the first of which is no chain of the same kind, and so on down
  pub data IsCanonicalRoute : RoutePlace → ℕ → Route → Type 0 where
    down : (p : RoutePlace) (room : ℕ) (f : Name) → IsFree f → IsCanonicalRoute p room (route.Down f)
    up : (p : RoutePlace) (room : ℕ) (f : Name) → IsFree f → IsCanonicalRoute p room (route.Up f)
    up_any : (p : RoutePlace) (room : ℕ) → IsCanonicalRoute p room route.UpAny
    root : (p : RoutePlace) (room : ℕ) → IsCanonicalRoute p room route.Root
    leaf : (p : RoutePlace) (room : ℕ) → IsCanonicalRoute p room route.Leaf
    is_type : (p : RoutePlace) (room : ℕ) (ty : Name) → IsFree ty → IsCanonicalRoute p room (route.IsType ty)
    is_variant : (p : RoutePlace) (room : ℕ) (ty variant : Name) → IsFree ty → IsFree variant → IsCanonicalRoute p room (route.IsVariant ty variant)
    is_bool : (p : RoutePlace) (room : ℕ) (f : Name) (value : Bool) → IsFree f → IsCanonicalRoute p room (route.IsBool f value)
    then : (p : RoutePlace) (room : ℕ) (first : Route) (others : List Route) → nat_lt 1 (asks p) ≡ false → is_then_node (out-Route first) ≡ false →
        IsCanonicalRoute repeated room first → AreCanonicalRoutes repeated room others → IsCanonicalRoute p room (route.Then first others)
    or : (p : RoutePlace) (room : ℕ) (first : Route) (others : List Route) → nat_lt 0 (asks p) ≡ false → is_or_node (out-Route first) ≡ false →
        IsCanonicalRoute sequence room first → AreCanonicalRoutes sequence room others → IsCanonicalRoute p room (route.Or first others)
    star : (p : RoutePlace) (room : ℕ) (inner : Route) (place : Pos) (places : List Pos) → nat_lt 2 (asks p) ≡ false → is_star_node (out-Route inner) ≡ false →
        IsCanonicalRoute single room inner → IsCanonicalRoute p room (route.Star inner (place ∷ places))
    group : (p : RoutePlace) (room : ℕ) (r : Route) → IsGrouped p r → IsCanonicalRoute whole room r → IsCanonicalRoute p (suc room) r

  -- the operands of a chain but the first, at least one
  pub data AreCanonicalRoutes : RoutePlace → ℕ → List Route → Type 0 where
    last : (p : RoutePlace) (room : ℕ) (r : Route) → IsCanonicalRoute p room r → AreCanonicalRoutes p room (r ∷ [])
    more : (p : RoutePlace) (room : ℕ) (r : Route) (others : List Route) → IsCanonicalRoute p room r → AreCanonicalRoutes p room others
        → AreCanonicalRoutes p room (r ∷ others)
