-- Traces of whole runs, and the runs.
use Rattle.std.proofs.Common.{ℕ, zero, suc, List, [], ◌∷◌, ◌++◌, refl}
use Rattle.store_core.specs.Stores.{StoreMap}
use Rattle.store_exec.specs.declared.cause.Cause.{Cause}
use Rattle.pale_typed.specs.declared.typed.ProcEntry.{ProcEntry}
use Rattle.pale_typed.specs.declared.typed.Stmt.{Stmt, out-Stmt}
use Rattle.pale_typed.specs.declared.typed.Stmt.TheOpen.{Stmt-F}
use Rattle.pale_typed.specs.TypedPrograms.{TypedProgram}
use Rattle.whole_run.specs.States.{Waiting, State, runs, exited, Turn, goes, fails, Answer}
use Rattle.whole_run.specs.Turns.{TakesForm, Takes}
use Rattle.whole_run.specs.Runs.{EndsBy, Ends, WholeRun}
use Rattle.store_trace.specs.declared.event.Event.{Event}
use Rattle.whole_trace.specs.Shown.{state_shows}
use Rattle.whole_trace.specs.Stopping.{FormStops, LeftStops, StopsAt}
use Rattle.whole_trace.specs.Traces.{Stand, stand_at, Leads, TracesBy, Traces, TracedRun}

module _ (program : TypedProgram) where
  -- ---- where a step fails it stands somewhere

  form-stops : (entry : ProcEntry) (waiting : List Waiting) (s : StoreMap) (left : List Stmt) (Later : Turn → Type 0) (Stops : StoreMap → Type 0)
      (turn : Turn) → (Later turn → (at : StoreMap) × Stops at) → (y : Stmt-F Stmt) → TakesForm program entry waiting s left Later y turn →
      (at : StoreMap) × FormStops program entry s Stops y at
  form-stops entry waiting s left Later Stops turn later Stmt-F.Skip h = later h
  form-stops entry waiting s left Later Stops turn later (Stmt-F.Do line a) h = (s, refl)
  form-stops entry waiting s left Later Stops turn later (Stmt-F.If line c first other) h = (s, refl)
  form-stops entry waiting s left Later Stops turn later (Stmt-F.While place c invariant body) h = (s, refl)
  form-stops entry waiting s left Later Stops turn later (Stmt-F.Split place a) h = (s, refl)
  form-stops entry waiting s left Later Stops turn later (Stmt-F.Call place call) (t, set, next) = (t, set)

  left-stops : (entry : ProcEntry) (waiting : List Waiting) (s : StoreMap) (turn : Turn) (left : List Stmt) → Takes program entry waiting s left turn →
      (at : StoreMap) × LeftStops program entry s left at
  left-stops entry waiting s turn [] (t, set, next) = (t, set)
  left-stops entry waiting s turn (next ∷ left) h =
      form-stops entry waiting s left (Takes program entry waiting s left) (LeftStops program entry s left) turn
      (left-stops entry waiting s turn left) (out-Stmt next) h

  step-stops : (state : State) (why : Cause) (line : ℕ) → Leads program state (fails why line) → (at : StoreMap) × StopsAt program state at
  step-stops (runs f waiting) why line h = left-stops f.entry waiting f.store (fails why line) f.left h
  step-stops (exited t []) why line h = absurd h
  step-stops (exited t (w ∷ waiting)) why line (callee, there, is) = absurd cc

  -- ---- a trace's answer is the run's

  module _ (first : ℕ) where
    ends-by : (state : State) (n : ℕ) → ((next : State) (shown : List Event) (stand : Stand) (answer : Answer) →
        Traces program first n next shown stand answer → Ends program n next answer) → (turn : Turn) (shown : List Event) (stand : Stand) (answer : Answer) →
        TracesBy program first state (Traces program first n) turn shown stand answer → EndsBy (Ends program n) turn answer
    ends-by state n ends (goes next) shown stand answer (after, is, later) = ends next after stand answer later
    ends-by state n ends (fails why line) shown stand answer (at, stops, none, stands, is) = is

    traces-end : (n : ℕ) (state : State) (shown : List Event) (stand : Stand) (answer : Answer) → Traces program first n state shown stand answer →
        Ends program n state answer
    traces-end zero (runs f waiting) shown stand answer h = h.1
    traces-end zero (exited t []) shown stand answer h = h.1
    traces-end zero (exited t (w ∷ waiting)) shown stand answer h = h.1
    traces-end (suc n) (runs f waiting) shown stand answer (turn, leads, by) =
        (turn, leads, ends-by (runs f waiting) n (traces-end n) turn shown stand answer by)
    traces-end (suc n) (exited t []) shown stand answer h = h.1
    traces-end (suc n) (exited t (w ∷ waiting)) shown stand answer (turn, leads, by) =
        (turn, leads, ends-by (exited t (w ∷ waiting)) n (traces-end n) turn shown stand answer by)

    -- ---- each run has a trace

    abbrev Has : ℕ → State → Answer → Type 0
    Has n state answer = (shown : List Event) × (stand : Stand) × Traces program first n state shown stand answer

    traced-by : (state : State) (n : ℕ) → ((next : State) (answer : Answer) → Ends program n next answer → Has n next answer) →
        (turn : Turn) (answer : Answer) → Leads program state turn → EndsBy (Ends program n) turn answer →
        (shown : List Event) × (stand : Stand) × TracesBy program first state (Traces program first n) turn shown stand answer
    traced-by state n traced (goes next) answer leads ends =
        let later = traced next answer ends in
        (state_shows program state ++ later.0, later.1, (later.0, refl, later.2))
    traced-by state n traced (fails why line) answer leads is =
        let stops = step-stops state why line leads in
        ([], stand_at first state stops.0, (stops.0, stops.1, refl, refl, is))

    ends-traced : (n : ℕ) (state : State) (answer : Answer) → Ends program n state answer → Has n state answer
    ends-traced zero (runs f waiting) answer is = ([], stand_at first (runs f waiting) f.store, ((refl, refl), is))
    ends-traced zero (exited t []) answer is = ([], stand_at first (exited t []) t, ((refl, refl), is))
    ends-traced zero (exited t (w ∷ waiting)) answer is = ([], stand_at first (exited t (w ∷ waiting)) t, ((refl, refl), is))
    ends-traced (suc n) (runs f waiting) answer (turn, takes, ends) =
        let it = traced-by (runs f waiting) n (ends-traced n) turn answer takes ends in
        (it.0, it.1, (turn, takes, it.2))
    ends-traced (suc n) (exited t []) answer is = ([], stand_at first (exited t []) t, ((refl, refl), is))
    ends-traced (suc n) (exited t (w ∷ waiting)) answer (turn, returns, ends) =
        let it = traced-by (exited t (w ∷ waiting)) n (ends-traced n) turn answer returns ends in
        (it.0, it.1, (turn, returns, it.2))

  pub trace-answers : (number : ℕ) (s : StoreMap) (n : ℕ) (shown : List Event) (stand : Stand) (answer : Answer) →
      TracedRun program number s n shown stand answer → WholeRun program number s n answer
  trace-answers number s n shown stand answer (entry, there, h) = (
    entry,
    there,
    traces-end number n (runs (record { entry = entry; store = s; left = entry.proc.body }) []) shown stand answer h,
  )

  pub run-traced : (number : ℕ) (s : StoreMap) (n : ℕ) (answer : Answer) → WholeRun program number s n answer →
      (shown : List Event) × (stand : Stand) × TracedRun program number s n shown stand answer
  run-traced number s n answer (entry, there, h) =
      let it = ends-traced number n (runs (record { entry = entry; store = s; left = entry.proc.body }) []) answer h in
      (it.0, it.1, (entry, there, it.2))
