-- How large a route is: it has at most 1,024 nodes.
use Rattle.std.specs.Prelude.{ℕ, suc, ◌+◌, List, [], ◌∷◌, length}
use Rattle.pale_syntax.specs.declared.tree.route.Route.{Route}
use Rattle.pale_syntax.specs.declared.tree.route.Route.TheOpen.{Route-F}
use Rattle.pale_syntax.specs.declared.tree.route.Route.TheFolds.{fold-Route}

-- the parts of a chain behind its first, each with the `.` or `+` before it
abbrev pub others_size : List ℕ → ℕ
others_size [] = 0
others_size (size ∷ sizes) = suc size + others_size sizes

-- a step and a test count one, and so does each `.`, `+` and `*`
abbrev pub size_rules : Route-F ℕ → ℕ
size_rules (Route-F.Down f) = 1
size_rules (Route-F.Up f) = 1
size_rules Route-F.UpAny = 1
size_rules Route-F.Root = 1
size_rules Route-F.Leaf = 1
size_rules (Route-F.IsType ty) = 1
size_rules (Route-F.IsVariant ty v) = 1
size_rules (Route-F.IsBool f truth) = 1
size_rules (Route-F.Then first others) = first + others_size others
size_rules (Route-F.Or first others) = first + others_size others
size_rules (Route-F.Star round stars) = round + length stars

-- how many nodes a route has
unfoldable pub route_size : Route → ℕ
route_size = fold-Route ℕ size_rules
