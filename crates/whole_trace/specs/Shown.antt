-- What the next step of a whole run shows, where it is no failing one.
use Rattle.std.specs.Prelude.{ℕ, List, [], ◌∷◌}
use Rattle.store_core.specs.Tables.{TypeEntry}
use Rattle.store_core.specs.Stores.{StoreMap}
use Rattle.store_exec.specs.Steps.{truth_of}
use Rattle.pale_typed.specs.declared.typed.Stmt.{Stmt, out-Stmt}
use Rattle.pale_typed.specs.declared.typed.Stmt.TheOpen.{Stmt-F}
use Rattle.pale_typed.specs.TypedPrograms.{TypedProgram}
use Rattle.store_trace.specs.declared.event.Event.{Event}
use Rattle.store_trace.specs.declared.event.Event.TheVariants as event
use Rattle.store_trace.specs.Showing.{events_of, truth_events}
use Rattle.whole_run.specs.States.{State, runs, exited}

-- by the form of the next statement; `skip` is no step and shows nothing, and so what comes after it. The settings to null or false
-- before a call or at the exit take no step, and show nothing
abbrev pub form_shows : List TypeEntry → StoreMap → List Event → Stmt-F Stmt → List Event
form_shows types s later Stmt-F.Skip = later
form_shows types s later (Stmt-F.Do line a) = events_of types line s a
form_shows types s later (Stmt-F.If line c first other) = truth_events line (truth_of s c)
form_shows types s later (Stmt-F.While place c invariant body) = event.Cut place.line ∷ []
form_shows types s later (Stmt-F.Split place a) = event.Cut place.line ∷ []
form_shows types s later (Stmt-F.Call place call) = event.Call place.line call.callee ∷ []

-- by the statements that are left of a procedure with this last line: where none is, it exits
abbrev pub left_shows : List TypeEntry → ℕ → StoreMap → List Stmt → List Event
left_shows types last s [] = event.Cut last ∷ []
left_shows types last s (next ∷ left) = form_shows types s (left_shows types last s left) (out-Stmt next)

-- the next step of a run
abbrev pub state_shows : TypedProgram → State → List Event
state_shows program (runs f waiting) = left_shows program.types f.entry.proc.last f.store f.left
state_shows program (exited t waiting) = event.Return ∷ []
