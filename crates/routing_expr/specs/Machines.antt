-- What a route is taken apart into: places, and ways between them. (Thompson, CACM 1968, "Regular expression search
-- algorithm".)
use Rattle.std.specs.Prelude.{◌≡◌, ◌↔◌, ◌<◌, ◌≤◌, ◌+◌, ◌++◌, ◌∷◌, ℕ, List, map, sum_by, Contains}
use Rattle.store_core.specs.declared.ids.CellId.{CellId}
use Rattle.store_core.specs.declared.kind.Route.{Route}
use Rattle.store_core.specs.declared.kind.Route.TheVariants as route
use Rattle.store_core.specs.declared.kind.Route.TheOpen.{Route-F}
use Rattle.store_core.specs.declared.kind.Route.TheFolds.{fold-Route}
use Rattle.store_core.specs.Tables.{TypeEntry}
use Rattle.store_core.specs.Stores.{StoreMap, IsLive}
use Rattle.routing_walks.specs.Gathering.{Gathers}
use Rattle.routing_walks.specs.Walks.{Fields, Stays, Walk}
use Rattle.routing_expr.specs.declared.machine.Test.{Test}
use Rattle.routing_expr.specs.declared.machine.Test.TheVariants as test
use Rattle.routing_expr.specs.declared.machine.Step.{Step}
use Rattle.routing_expr.specs.declared.machine.Step.TheVariants as step
use Rattle.routing_expr.specs.declared.machine.Edge.{Edge}
use Rattle.routing_expr.specs.declared.machine.Part.{Part}
use Rattle.routing_expr.specs.declared.machine.Plan.{Plan}

-- what a way takes: a live cell to itself, or the walks of a route
pub data Label : Type 0 where
  live : Label
  along : Route → Label

-- a way from a place to a place
pub record Arc : Type 0 where
  pub from : ℕ
  pub label : Label
  pub to : ℕ

abbrev pub arc : ℕ → Label → ℕ → Arc
arc from label to = record { from = from; label = label; to = to }

-- ---- what is kept

abbrev pub label_of_test : Test → Label
label_of_test test.Live = live
label_of_test test.Root = along route.Root
label_of_test test.Leaf = along route.Leaf
label_of_test (test.IsType ty) = along (route.IsType ty)
label_of_test (test.IsVariant v) = along (route.IsVariant v)
label_of_test (test.IsBool name truth) = along (route.IsBool name.now truth)

abbrev pub label_of : Step → Label
label_of (step.Down name) = along (route.Down name.now)
label_of (step.Up name) = along (route.Up name.now)
label_of step.UpAny = along route.UpAny
label_of (step.Stay test) = label_of_test test

abbrev pub arc_of : Edge → Arc
arc_of edge = record { from = edge.from; label = label_of edge.step; to = edge.to }

abbrev pub part_of : Part → Arc
part_of part = record { from = part.from; label = along part.route.now; to = part.to }

abbrev pub arcs_of : Plan → List Arc
arcs_of plan = map arc_of plan.edges.items ++ map part_of plan.parts.items

-- ---- how much is left

abbrev pub part_count_of_node : Route-F ℕ → ℕ
part_count_of_node (Route-F.Down name) = 0
part_count_of_node (Route-F.Up name) = 0
part_count_of_node Route-F.UpAny = 0
part_count_of_node Route-F.Root = 0
part_count_of_node Route-F.Leaf = 0
part_count_of_node (Route-F.IsType ty) = 0
part_count_of_node (Route-F.IsVariant v) = 0
part_count_of_node (Route-F.IsBool name truth) = 0
part_count_of_node (Route-F.Then first second) = first + second + 2
part_count_of_node (Route-F.Or one other) = one + other + 2
part_count_of_node (Route-F.Star round) = round + 1

-- how many parts a route is taken apart into, with those that they are taken apart into
abbrev pub part_count : Route → ℕ
part_count = fold-Route ℕ part_count_of_node

-- how many parts are still to be gone through, those that they are taken apart into included
abbrev pub parts_left : Plan → ℕ
parts_left plan = sum_by (λ part. part_count part.route.now + 1) plan.parts.items

-- ---- what it means

-- a way with this label takes a to b
abbrev pub Takes : List TypeEntry → StoreMap → Fields → Label → CellId → CellId → Type 0
Takes types s fields live a b = Stays (IsLive s) a b
Takes types s fields (along r) a b = Walk types s fields r a b

-- finitely many ways one after the other lead from a at the place p to b at the place q
pub data Path (types : List TypeEntry) (s : StoreMap) (fields : Fields) (arcs : List Arc) : ℕ → CellId → ℕ → CellId → Type 0 where
  stop : (p : ℕ) (a : CellId) → Path types s fields arcs p a p a
  go : (p : ℕ) (a : CellId) (arc : Arc) (b : CellId) (q : ℕ) (c : CellId) → Contains arcs arc → arc.from ≡ p →
      Takes types s fields arc.label a b → Path types s fields arcs arc.to b q c → Path types s fields arcs p a q c

-- the ways lead from the place 0 to the place 1 by what the route joins
abbrev pub Means : Route → List Arc → Type 0
Means whole arcs = (types : List TypeEntry) (s : StoreMap) (fields : Fields) (a b : CellId) →
    Walk types s fields whole a b ↔ Path types s fields arcs 0 a 1 b

-- and they touch places below this number alone
pub record IsPlan (whole : Route) (arcs : List Arc) (places : ℕ) : Type 0 where
  pub means : Means whole arcs
  pub two : 2 ≤ places
  pub below : (arc : Arc) → Contains arcs arc → (arc.from < places) × (arc.to < places)

-- ---- what a step of taking apart does

-- the second plan has this way more, and no other
abbrev pub Adds : Arc → Plan → Plan → Type 0
Adds new plan more = Gathers (arcs_of plan) (arcs_of more) (λ added. added ≡ new)

-- whatever route the first plan with this way more is for, the second plan is for that route
pub record StandsFor (part : Arc) (plan apart : Plan) : Type 0 where
  pub still : (whole : Route) → IsPlan whole (part ∷ arcs_of plan) plan.places → IsPlan whole (arcs_of apart) apart.places
