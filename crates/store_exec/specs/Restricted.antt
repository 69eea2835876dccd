-- Stores whose logic sets are restricted to the live cells, as they are from a cut on.
use Rattle.std.specs.Prelude.{map, filter, is_some}
use Rattle.store_core.specs.declared.value.Value.{Value}
use Rattle.store_core.specs.declared.value.Value.TheVariants as value
use Rattle.store_core.specs.Stores.{StoreMap, cell_of}

-- the live cells of a logic set; any other value as it is
abbrev pub live_part : StoreMap → Value → Value
live_part s (value.Bool truth) = value.Bool truth
live_part s (value.Cell c) = value.Cell c
live_part s (value.Cells cells) = value.Cells (filter (λ c. is_some (cell_of s c)) cells)

-- the store with its logic sets restricted to the live cells
abbrev pub restricted : StoreMap → StoreMap
restricted s = record s { vars = map (live_part s) s.vars }
