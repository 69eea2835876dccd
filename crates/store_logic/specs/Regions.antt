-- The cells of a region of a store.
use Rattle.std.specs.Prelude.{List}
use Rattle.store_core.specs.declared.ids.CellId.{CellId}
use Rattle.store_core.specs.Tables.{TypeEntry, VarEntry}
use Rattle.store_core.specs.Stores.{StoreMap, IsLive}
use Rattle.routing_walks.specs.Sets.{Lists}
use Rattle.routing_walks.specs.Regions.{IsPart}
use Rattle.routing_walks.specs.Reaching.{IsUnreached}
use Rattle.store_logic.specs.declared.region.Region.{Region}
use Rattle.store_logic.specs.declared.region.Region.TheVariants as region

-- the set is the region: all live cells; those that data fields reach from these data variables; all other live cells
abbrev pub IsRegion : List TypeEntry → List VarEntry → StoreMap → Region → List CellId → Type 0
IsRegion types vars s region.All cells = Lists (IsLive s) cells
IsRegion types vars s (region.Part roots) cells = IsPart types vars s roots cells
IsRegion types vars s (region.Rest roots) cells = Lists (IsUnreached types vars s roots) cells
