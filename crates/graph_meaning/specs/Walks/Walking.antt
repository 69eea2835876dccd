-- What a walk joins, told by positions.
use Rattle.std.specs.Prelude.{List}
use Rattle.gta_theory.specs.Assignments.{Position}
use Rattle.store_core.specs.declared.ids.CellId.{CellId}
use Rattle.store_core.specs.declared.kind.Route.{Route}
use Rattle.store_core.specs.Tables.{TypeEntry}
use Rattle.store_core.specs.Stores.{StoreMap}
use Rattle.routing_walks.specs.Walks.{Fields, Walk}
use Rattle.graph_view.specs.After.{Standing, IsAt}

-- cells at the two positions are joined
abbrev pub JoinsAt : Standing → (CellId → CellId → Type 0) → Position → Position → Type 0
JoinsAt at Joins p q = (c : CellId) × (d : CellId) × IsAt at c p × IsAt at d q × Joins c d

-- the route leads from the cell at the one position to the cell at the other
abbrev pub WalkAt : List TypeEntry → StoreMap → Standing → Fields → Route → Position → Position → Type 0
WalkAt types s at fields along = JoinsAt at (Walk types s fields along)
