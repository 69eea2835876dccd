-- What the loop that drops a route lowers.
use Rattle.std.specs.Prelude.{ℕ, ◌+◌, ◌*◌}
use Rattle.store_core.specs.declared.kind.Route.{Route, out-Route}
use Rattle.store_core.specs.declared.kind.Route.TheOpen.{Route-F}
use Rattle.store_core.specs.declared.kind.Route.TheFolds.{fold-Route}

-- a route's weight by that of its parts: a left part counts twice, so that turning a route of two parts to the right
-- lowers it
abbrev pub weight_of_node : Route-F ℕ → ℕ
weight_of_node (Route-F.Down name) = 1
weight_of_node (Route-F.Up name) = 1
weight_of_node Route-F.UpAny = 1
weight_of_node Route-F.Root = 1
weight_of_node Route-F.Leaf = 1
weight_of_node (Route-F.IsType ty) = 1
weight_of_node (Route-F.IsVariant v) = 1
weight_of_node (Route-F.IsBool name value) = 1
weight_of_node (Route-F.Then first second) = 2 * first + second + 1
weight_of_node (Route-F.Or one other) = 2 * one + other + 1
weight_of_node (Route-F.Star round) = round + 1

abbrev pub turning_weight : Route → ℕ
turning_weight = fold-Route ℕ weight_of_node

-- 0 for a step and 2 for a route that has parts
abbrev pub rank_of_node : Route-F Route → ℕ
rank_of_node (Route-F.Down name) = 0
rank_of_node (Route-F.Up name) = 0
rank_of_node Route-F.UpAny = 0
rank_of_node Route-F.Root = 0
rank_of_node Route-F.Leaf = 0
rank_of_node (Route-F.IsType ty) = 0
rank_of_node (Route-F.IsVariant v) = 0
rank_of_node (Route-F.IsBool name value) = 0
rank_of_node (Route-F.Then first second) = 2
rank_of_node (Route-F.Or one other) = 2
rank_of_node (Route-F.Star round) = 2

abbrev pub dropping_rank : Route → ℕ
dropping_rank along = rank_of_node (out-Route along)
