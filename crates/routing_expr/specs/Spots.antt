-- How a search goes on.
use Rattle.std.specs.Prelude.{◌≡◌, List, map, Option, Contains}
use Rattle.store_core.specs.declared.ids.TypeId.{TypeId}
use Rattle.store_core.specs.declared.ids.CellId.{CellId}
use Rattle.store_core.specs.Tables.{TypeEntry}
use Rattle.store_core.specs.Stores.{StoreMap}
use Rattle.routing_walks.specs.Walks.{Fields}
use Rattle.routing_expr.specs.declared.machine.Edge.{Edge}
use Rattle.routing_expr.specs.declared.machine.Machine.{Machine}
use Rattle.routing_expr.specs.declared.search.Search.{Search}
use Rattle.routing_expr.specs.declared.search.Spot.{Spot}
use Rattle.routing_expr.specs.Searches.{IsWanted, fields_in}
use Rattle.routing_expr.specs.Machines.{Label, Arc, label_of, arc_of, Takes, Path}

-- a way leads from the first spot to the second
pub record Follows (types : List TypeEntry) (s : StoreMap) (fields : Fields) (arcs : List Arc) (spot next : Spot) : Type 0 where
  pub arc : Arc
  pub held : Contains arcs arc
  pub from : arc.from ≡ spot.place
  pub takes : Takes types s fields arc.label spot.cell next.cell
  pub to : arc.to ≡ next.place

-- the spot is at the place 1, where a machine ends, and its cell is wanted
abbrev pub IsAtEnd : StoreMap → Option TypeId → Spot → Type 0
IsAtEnd s target spot = (spot.place ≡ 1) × IsWanted s target spot.cell

-- ---- the same in a search, on its store and by its fields

-- a way with this label takes a to b
abbrev pub TakesIn : Search → Label → CellId → CellId → Type 0
TakesIn search label a b = Takes search.types.now search.store.now (fields_in search.followed) label a b

-- the edge leads from the cell to the spot
abbrev pub EdgeLeads : Search → Edge → CellId → Spot → Type 0
EdgeLeads search edge from spot = (spot.place ≡ edge.to) × TakesIn search (label_of edge.step) from spot.cell

-- an edge of the machine leads from the first spot to the second
abbrev pub FollowsIn : Search → Machine → Spot → Spot → Type 0
FollowsIn search machine spot next =
    Follows search.types.now search.store.now (fields_in search.followed) (map arc_of machine.edges.items) spot next

-- edges of the machine lead from the cell, at the place 0 where the machine starts, to the spot
abbrev pub IsReached : Search → Machine → CellId → Spot → Type 0
IsReached search machine from spot =
    Path search.types.now search.store.now (fields_in search.followed) (map arc_of machine.edges.items) 0 from spot.place spot.cell
