-- Which procedure runs: its variables are those that its store has.
use Rattle.std.proofs.Common.{◌≡◌, inl, inr, ℕ, Bool, List, [], ◌∷◌, ◌++◌, Option, Some, IsSomeAnd, Result, Ok, Err, if◌then◌else◌, sym, subst, slice_get}
use Rattle.std.specs.List.{AllByRecursion}
use Rattle.store_core.specs.Stores.{StoreMap, Fits}
use Rattle.store_exec.specs.declared.cause.Cause.{Cause}
use Rattle.store_exec.specs.Runs.{Ending, RunsItems}
use Rattle.store_exec.specs.Steps.{truth_of}
use Rattle.store_exec.proofs.KeepLemmas.{IsWell}
use Rattle.store_exec.proofs.ItemsKeepLemmas.{items-keep}
use Rattle.store_exec.proofs.RestrictedLemmas.{well_formed-at_cut}
use Rattle.pale_typed.specs.declared.typed.ProcEntry.{ProcEntry}
use Rattle.pale_typed.specs.declared.typed.Stmt.{Stmt, out-Stmt}
use Rattle.pale_typed.specs.declared.typed.Stmt.TheOpen.{Stmt-F}
use Rattle.pale_typed.specs.TypedPrograms.{TypedProgram}
use Rattle.pale_typed.specs.Fitting.{StatementFits, ProgramFits}
use Rattle.hoare_split.specs.Cuts.{plain_cut}
use Rattle.hoare_split.specs.Picking.{is_awaited, is_left}
use Rattle.hoare_split.specs.Settings.{settings}
use Rattle.hoare_split.proofs.FittingVariableLemmas.{left-program, settings-fit}
use Rattle.hoare_split.proofs.FittingClaimLemmas.{PutsFit, call-settings}
use Rattle.whole_run.specs.States.{Waiting, State, runs, exited, Turn, goes, fails}
use Rattle.whole_run.specs.Turns.{from_ending, from_truth, on_with, TakesForm, Takes}
use Rattle.whole_run.proofs.Blocks.{form_fits}
use Rattle.whole_run.proofs.AnswerStanding.{Holds}
use Rattle.whole_trace.specs.Stopping.{FormStops, LeftStops, StopsAt}
use Rattle.whole_trace.specs.Traces.{proc_at, calls_of, store_of, Leads}
use Rattle.whole_turns.specs.Turning.{FormFits}

module _ (program : TypedProgram) (number : ℕ) where
  -- the procedure of this number
  abbrev Named : List Waiting → ProcEntry → Type 0
  Named waiting entry = slice_get program.procs (proc_at number waiting) ≡ Some entry

  -- and the callers of the calls that wait
  abbrev pub Callers : List Waiting → Type 0
  Callers [] = Unit {0}
  Callers (w ∷ waiting) = Named waiting w.caller.entry × Callers waiting

  -- a procedure that has exited left a store that fits its variables
  abbrev pub IsNamed : State → Type 0
  IsNamed (runs f waiting) = Named waiting f.entry × Callers waiting
  IsNamed (exited t waiting) = ((entry : ProcEntry) × Named waiting entry × Fits program.types entry.vars t) × Callers waiting

  abbrev OnNamed : Turn → Type 0
  OnNamed (goes next) = IsNamed next
  OnNamed (fails why line) = Unit {0}

  -- ---- a step keeps it so

  module _ (entry : ProcEntry) (waiting : List Waiting) (named : Named waiting entry) (callers : Callers waiting) where
    -- it runs on in the same procedure
    same-on : (turn : Turn) (left : List Stmt) (t : StoreMap) → turn ≡ goes (on_with entry waiting left t) → OnNamed turn
    same-on turn left t is = subst OnNamed (sym is) (named, callers)

    stops-on : (turn : Turn) (why : Cause) (line : ℕ) → turn ≡ fails why line → OnNamed turn
    stops-on turn why line is = subst OnNamed (sym is) tt

    act-on : (turn : Turn) (left : List Stmt) (end : Ending) → turn ≡ from_ending (on_with entry waiting left) end → OnNamed turn
    act-on turn left (Ok t) is = same-on turn left t is
    act-on turn left (Err fault) is = stops-on turn fault.cause fault.line is

    truth-on : (turn : Turn) (line : ℕ) (lists : Bool → List Stmt) (s : StoreMap) (r : Result Bool Cause) →
        turn ≡ from_truth line (λ truth. on_with entry waiting (lists truth) s) r → OnNamed turn
    truth-on turn line lists s (Ok truth) is = same-on turn (lists truth) s is
    truth-on turn line lists s (Err why) is = stops-on turn why line is

    form-on : (left : List Stmt) (s : StoreMap) (Later : Turn → Type 0) (turn : Turn) → (Later turn → OnNamed turn) → (y : Stmt-F Stmt) →
        TakesForm program entry waiting s left Later y turn → OnNamed turn
    form-on left s Later turn later Stmt-F.Skip h = later h
    form-on left s Later turn later (Stmt-F.Do line a) (end, does, is) = act-on turn left end is
    form-on left s Later turn later (Stmt-F.If line c first other) is =
        truth-on turn line (λ (truth : Bool). (if truth then first else other) ++ left) s (truth_of s c) is
    form-on left s Later turn later (Stmt-F.While place c invariant body) (inl (none, is)) = subst OnNamed (sym is) (named, callers)
    form-on left s Later turn later (Stmt-F.While place c invariant body) (inr (why, wrong, is)) = stops-on turn why place.line is
    form-on left s Later turn later (Stmt-F.Split place a) (inl (none, is)) = subst OnNamed (sym is) (named, callers)
    form-on left s Later turn later (Stmt-F.Split place a) (inr (why, wrong, is)) = stops-on turn why place.line is
    form-on left s Later turn later (Stmt-F.Call place call) (u, ran, inl (none, (callee, cells, there, part, is))) =
        subst OnNamed (sym is) (there, (named, callers))
    form-on left s Later turn later (Stmt-F.Call place call) (u, ran, inr (why, wrong, is)) = stops-on turn why place.line is

    -- the settings at an exit keep the store fitting
    exit-fits : (s u : StoreMap) → IsWell program.types entry.vars s →
        RunsItems program.types (settings entry.vars (is_left entry.proc) entry.proc.last) s (Ok u) → Fits program.types entry.vars u
    exit-fits s u well ran = ((items-keep program.types entry.vars (settings entry.vars (is_left entry.proc) entry.proc.last) s u well
        (settings-fit program.types entry.vars (is_left entry.proc) entry.proc.last (left-program entry.vars entry.proc)) ran).well).fits

    takes-on : (s : StoreMap) → IsWell program.types entry.vars s → (turn : Turn) (left : List Stmt) → Takes program entry waiting s left turn → OnNamed turn
    takes-on s well turn [] (u, ran, inl (none, is)) = subst OnNamed (sym is) (
      (entry, named, (well_formed-at_cut program.types entry.vars u (exit-fits s u well ran) (plain_cut entry.proc.last entry.proc.post) none).fits),
      callers,
    )
    takes-on s well turn [] (u, ran, inr (why, wrong, is)) = stops-on turn why entry.proc.last is
    takes-on s well turn (next ∷ left) h =
        form-on left s (Takes program entry waiting s left) turn (takes-on s well turn left) (out-Stmt next) h

  pub leads-on : (state : State) (turn : Turn) → Holds program state → IsNamed state → Leads program state turn → OnNamed turn
  leads-on (runs f waiting) turn holds (named, callers) leads = takes-on f.entry waiting named callers f.store holds.well turn f.left leads
  leads-on (exited t []) turn holds named leads = absurd leads
  leads-on (exited t (w ∷ waiting)) turn holds (it, (named, callers)) (callee, there, is) = subst OnNamed (sym is) (named, callers)

  -- ---- where it stops the store fits

  module _ (puts : PutsFit) (fit : ProgramFits program) (entry : ProcEntry) (s : StoreMap) (well : IsWell program.types entry.vars s) where
    same-fits : (at : StoreMap) → at ≡ s → Fits program.types entry.vars at
    same-fits at is = subst (Fits program.types entry.vars) (sym is) well.fits

    form-stop-fits : (Later : StoreMap → Type 0) (at : StoreMap) → (Later at → Fits program.types entry.vars at) → (y : Stmt-F Stmt) →
        FormFits program entry.vars y → FormStops program entry s Later y at → Fits program.types entry.vars at
    form-stop-fits Later at later Stmt-F.Skip known h = later h
    form-stop-fits Later at later (Stmt-F.Do line a) known is = same-fits at is
    form-stop-fits Later at later (Stmt-F.If line c first other) known is = same-fits at is
    form-stop-fits Later at later (Stmt-F.While place c invariant body) known is = same-fits at is
    form-stop-fits Later at later (Stmt-F.Split place a) known is = same-fits at is
    form-stop-fits Later at later (Stmt-F.Call place call) known ran =
        ((items-keep program.types entry.vars (settings entry.vars (is_awaited call) place.line) s at well
        (call-settings puts program.types program.procs fit.procs entry.vars call known place.line) ran).well).fits

    left-stop-fits : (waiting : List Waiting) (named : Named waiting entry) (callers : Callers waiting) (at : StoreMap) (left : List Stmt) →
        AllByRecursion (StatementFits program.types program.procs entry.vars) left → LeftStops program entry s left at → Fits program.types entry.vars at
    left-stop-fits waiting named callers at [] all ran = exit-fits entry waiting named callers s at well ran
    left-stop-fits waiting named callers at (next ∷ left) all h =
        form-stop-fits (LeftStops program entry s left) at (left-stop-fits waiting named callers at left all.1) (out-Stmt next)
        (form_fits program.types program.procs entry.vars next all.0) h

  -- the store fits the variables of the procedure of this number
  abbrev pub StandFits : ℕ → StoreMap → Type 0
  StandFits proc at = IsSomeAnd (slice_get program.procs proc) (λ entry. Fits program.types entry.vars at)

  stands-so : (waiting : List Waiting) (entry : ProcEntry) (at : StoreMap) → Named waiting entry → Fits program.types entry.vars at →
      StandFits (proc_at number waiting) at
  stands-so waiting entry at named fits = subst (λ (o : Option ProcEntry). IsSomeAnd o (λ e. Fits program.types e.vars at)) (sym named) fits

  pub rest-fits : (state : State) → Holds program state → IsNamed state → StandFits (proc_at number (calls_of state)) (store_of state)
  rest-fits (runs f waiting) holds (named, callers) = stands-so waiting f.entry f.store named (holds.well).fits
  rest-fits (exited t waiting) holds ((entry, named, fits), callers) = stands-so waiting entry t named fits

  pub stop-fits : PutsFit → ProgramFits program → (state : State) (at : StoreMap) → Holds program state → IsNamed state → StopsAt program state at →
      StandFits (proc_at number (calls_of state)) at
  stop-fits puts fit (runs f waiting) at holds (named, callers) stops = stands-so waiting f.entry at named
      (left-stop-fits puts fit f.entry f.store holds.well waiting named callers at f.left (holds.fitting).statements stops)
  stop-fits puts fit (exited t waiting) at holds named stops = absurd stops
