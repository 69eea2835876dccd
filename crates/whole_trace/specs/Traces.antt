-- What a whole run shows, and where it stands when it has its answer. The answer is that of `Runs`.
use Rattle.std.specs.Prelude.{◌≡◌, ℕ, zero, suc, List, [], ◌∷◌, ◌++◌, Some, slice_get}
use Rattle.store_core.specs.Stores.{StoreMap}
use Rattle.pale_typed.specs.declared.typed.ProcEntry.{ProcEntry}
use Rattle.pale_typed.specs.TypedPrograms.{TypedProgram}
use Rattle.whole_run.specs.States.{Waiting, State, runs, exited, Turn, goes, fails, Answer, Running, Fail, Exit}
use Rattle.whole_run.specs.Turns.{Takes, Returns}
use Rattle.store_trace.specs.declared.event.Event.{Event}
use Rattle.whole_trace.specs.Shown.{state_shows}
use Rattle.whole_trace.specs.Stopping.{StopsAt}

-- where a run stands: the procedure whose variables the store has, and the store
pub record Stand : Type 0 where
  pub proc : ℕ
  pub store : StoreMap

-- the procedure that runs, or has exited: the callee of the last call that waits, or the first procedure, which is this one
abbrev pub proc_at : ℕ → List Waiting → ℕ
proc_at first [] = first
proc_at first (w ∷ waiting) = w.call.callee

abbrev pub calls_of : State → List Waiting
calls_of (runs f waiting) = waiting
calls_of (exited t waiting) = waiting

abbrev pub store_of : State → StoreMap
store_of (runs f waiting) = f.store
store_of (exited t waiting) = t

-- this store, in the procedure of the state
abbrev pub stand_at : ℕ → State → StoreMap → Stand
stand_at first state s = record { proc = proc_at first (calls_of state); store = s }

-- the run rests here: nothing is shown, and it stands where the state is
abbrev pub Rests : ℕ → State → List Event → Stand → Type 0
Rests first state shown stand = (shown ≡ []) × (stand ≡ stand_at first state (store_of state))

-- one step
abbrev pub Leads : TypedProgram → State → Turn → Type 0
Leads program (runs f waiting) turn = Takes program f.entry waiting f.store f.left turn
Leads program (exited t []) turn = ⊥
Leads program (exited t (w ∷ waiting)) turn = Returns program t w waiting turn

-- a step that goes on shows its events, and then what comes later; one that fails shows nothing
abbrev pub TracesBy : TypedProgram → ℕ → State → (State → List Event → Stand → Answer → Type 0) → Turn → List Event → Stand → Answer → Type 0
TracesBy program first state Later (goes next) shown stand answer =
    (after : List Event) × (shown ≡ state_shows program state ++ after) × Later next after stand answer
TracesBy program first state Later (fails why line) shown stand answer =
    (at : StoreMap) × StopsAt program state at × (shown ≡ []) × (stand ≡ stand_at first state at) × (answer ≡ Fail why line)

-- what a run shows that stands here with these steps left, and its answer: with none left where one is needed it is still running
abbrev pub Traces : TypedProgram → ℕ → ℕ → State → List Event → Stand → Answer → Type 0
Traces program first zero (runs f waiting) shown stand answer = Rests first (runs f waiting) shown stand × (answer ≡ Running)
Traces program first zero (exited t []) shown stand answer = Rests first (exited t []) shown stand × (answer ≡ Exit t)
Traces program first zero (exited t (w ∷ waiting)) shown stand answer = Rests first (exited t (w ∷ waiting)) shown stand × (answer ≡ Running)
Traces program first (suc n) (runs f waiting) shown stand answer = (turn : Turn) × Leads program (runs f waiting) turn
    × TracesBy program first (runs f waiting) (Traces program first n) turn shown stand answer
Traces program first (suc n) (exited t []) shown stand answer = Rests first (exited t []) shown stand × (answer ≡ Exit t)
Traces program first (suc n) (exited t (w ∷ waiting)) shown stand answer = (turn : Turn) × Leads program (exited t (w ∷ waiting)) turn
    × TracesBy program first (exited t (w ∷ waiting)) (Traces program first n) turn shown stand answer

-- the procedure of this number, from its entry with the store, for at most n steps
abbrev pub TracedRun : TypedProgram → ℕ → StoreMap → ℕ → List Event → Stand → Answer → Type 0
TracedRun program number s n shown stand answer =
    (entry : ProcEntry) × (slice_get program.procs number ≡ Some entry)
    × Traces program number n (runs (record { entry = entry; store = s; left = entry.proc.body }) []) shown stand answer
