-- What one step of code shows, by the store before it.
use Rattle.std.specs.Prelude.{ℕ, Bool, true, List, [], ◌∷◌, ◌++◌, Some, Result, Ok, Err}
use Rattle.store_core.specs.declared.value.Value.{Value}
use Rattle.store_core.specs.declared.value.Value.TheVariants as value
use Rattle.store_core.specs.Tables.{TypeEntry}
use Rattle.store_core.specs.Stores.{StoreMap}
use Rattle.store_logic.specs.declared.path.Path.{Path}
use Rattle.store_logic.specs.declared.act.Rhs.{Rhs}
use Rattle.store_logic.specs.declared.act.Rhs.TheVariants as rhs
use Rattle.store_logic.specs.declared.act.Act.{Act}
use Rattle.store_logic.specs.declared.act.Act.TheVariants as act
use Rattle.store_exec.specs.declared.cause.Cause.{Cause}
use Rattle.store_exec.specs.Steps.{variable, evaluated}
use Rattle.store_trace.specs.declared.event.Event.{Event}
use Rattle.store_trace.specs.declared.event.Event.TheVariants as event

-- the cell that is made gets the next number
abbrev pub made_events : ℕ → StoreMap → Rhs → List Event
made_events line s (rhs.Cell p) = []
made_events line s (rhs.New v) = event.New line (record { 0 = s.next }) v ∷ []
made_events line s (rhs.Truth c) = []

-- the place has now the value of what is assigned, which was evaluated before; it isn't read back, since an assignment may change
-- what its own place names
abbrev pub set_events : ℕ → Path → Result (StoreMap × Value) Cause → List Event
set_events line p (Ok got) = event.Assign line p got.1 ∷ []
set_events line p (Err why) = []

-- the cell that a value is becomes dead
abbrev pub freed_events : ℕ → Value → List Event
freed_events line (value.Cell (Some c)) = event.Free line c ∷ []
freed_events line _ = []

-- what an act shows that succeeds on the store
abbrev pub events_of : List TypeEntry → ℕ → StoreMap → Act → List Event
events_of types line s (act.Assign p x) = made_events line s x ++ set_events line p (evaluated types s x)
events_of types line s (act.Free v) = freed_events line (variable s v)
events_of types line s (act.Assert a) = event.Truth line true ∷ []

-- what a whole condition shows
abbrev pub truth_events : ℕ → Result Bool Cause → List Event
truth_events line (Ok truth) = event.Truth line truth ∷ []
truth_events line (Err why) = []
