-- What is walked in, and what is kept of walks.
use Rattle.std.specs.Prelude.{List}
use Rattle.store_core.specs.Tables.{TypeEntry}
use Rattle.store_core.specs.Stores.{StoreMap}
use Rattle.routing_walks.specs.Walks.{DataAndPointers, Walk}
use Rattle.routing_walks.specs.Sets.{Lists}
use Rattle.routing_expr.specs.Searches.{Ground}
use Rattle.store_sat.specs.declared.walks.Kept.{Kept}

-- the walks of assertions follow data fields and pointer fields
abbrev pub ground : List TypeEntry → StoreMap → Ground
ground types s = record { types = types; store = s; fields = DataAndPointers }

-- what is kept are the ends of the walks by the route from the cell
abbrev pub AreEnds : Ground → Kept → Type 0
AreEnds g kept = Lists (Walk g.types g.store g.fields kept.route.now kept.from) kept.ends
