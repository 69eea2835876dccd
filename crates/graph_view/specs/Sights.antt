-- What is looked at: the heap events, with the last one first, and the region whose cells are read.
use Rattle.std.specs.Prelude.{ℕ, Bool, List, [], reverse, count_by, Option, None}
use Rattle.ws2s_core.specs.declared.track.Track.{Track}
use Rattle.store_core.specs.Tables.{VarEntry}
use Rattle.tree_encode.specs.Counting.{is_data_var}
use Rattle.graph_view.specs.declared.view.Event.{Event}
use Rattle.graph_view.specs.declared.view.View.{View}

-- how many slots there are for data variables; those of new cells stand behind them
abbrev pub var_slots : List VarEntry → ℕ
var_slots vars = count_by is_data_var vars

-- where cells are looked for: behind so many slots, after these events, in this region
pub record Sight : Type 0 where
  pub slots : ℕ
  pub events : List Event
  pub region : Option (Track × Bool)

-- the store before all events
abbrev pub at_first : ℕ → Sight
at_first slots = record { slots = slots; events = []; region = None }

-- what a view looks at
abbrev pub sight_of : List VarEntry → View → Sight
sight_of vars view = record { slots = var_slots vars; events = reverse view.events; region = view.region }
