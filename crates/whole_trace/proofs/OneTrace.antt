-- A whole run has one trace.
use Rattle.std.proofs.Common.{◌≡◌, ◌∙◌, ℕ, zero, suc, List, [], ◌∷◌, ◌++◌, Ok, sym, ap, subst}
use Rattle.store_core.specs.Stores.{StoreMap}
use Rattle.pale_typed.specs.declared.typed.ProcEntry.{ProcEntry}
use Rattle.pale_typed.specs.declared.typed.Stmt.{Stmt, out-Stmt}
use Rattle.pale_typed.specs.declared.typed.Stmt.TheOpen.{Stmt-F}
use Rattle.pale_typed.specs.TypedPrograms.{TypedProgram}
use Rattle.store_exec.specs.declared.code.Item.{Item}
use Rattle.store_exec.specs.Runs.{RunsItems}
use Rattle.hoare_split.specs.Picking.{is_awaited, is_left}
use Rattle.hoare_split.specs.Settings.{settings}
use Rattle.whole_run.specs.States.{State, runs, exited, Turn, goes, fails, Answer}
use Rattle.whole_run.proofs.OneAnswer.{items_end_one, takes_one, returns_one}
use Rattle.store_trace.specs.declared.event.Event.{Event}
use Rattle.whole_trace.specs.Shown.{state_shows}
use Rattle.whole_trace.specs.Stopping.{FormStops, LeftStops, StopsAt}
use Rattle.whole_trace.specs.Traces.{Stand, stand_at, Rests, Leads, TracesBy, Traces, TracedRun}

-- two traces are one
abbrev IsOne : (shown other : List Event) (stand also : Stand) (answer reply : Answer) → Type 0
IsOne shown other stand also answer reply = (shown ≡ other) × (stand ≡ also) × (answer ≡ reply)

module _ (program : TypedProgram) where
  -- ---- one step leads to one turn, and stops at one store

  turn-one : (state : State) (a c : Turn) → Leads program state a → Leads program state c → a ≡ c
  turn-one (runs f waiting) a c h k = takes_one program f.entry waiting f.store f.left a c h k
  turn-one (exited t []) a c h k = absurd h
  turn-one (exited t (w ∷ waiting)) a c h k = returns_one program t w waiting a c h k

  settings-one : (items : List Item) (s t u : StoreMap) → RunsItems program.types items s (Ok t) → RunsItems program.types items s (Ok u) → t ≡ u
  settings-one items s t u h k = let same = items_end_one program.types items s (Ok t) (Ok u) h k in cc

  form-one : (entry : ProcEntry) (s : StoreMap) (Stops : StoreMap → Type 0) → ((t u : StoreMap) → Stops t → Stops u → t ≡ u) →
      (y : Stmt-F Stmt) (t u : StoreMap) → FormStops program entry s Stops y t → FormStops program entry s Stops y u → t ≡ u
  form-one entry s Stops later Stmt-F.Skip t u h k = later t u h k
  form-one entry s Stops later (Stmt-F.Do line a) t u h k = h ∙ sym k
  form-one entry s Stops later (Stmt-F.If line c first other) t u h k = h ∙ sym k
  form-one entry s Stops later (Stmt-F.While place c invariant body) t u h k = h ∙ sym k
  form-one entry s Stops later (Stmt-F.Split place a) t u h k = h ∙ sym k
  form-one entry s Stops later (Stmt-F.Call place call) t u h k =
      settings-one (settings entry.vars (is_awaited call) place.line) s t u h k

  left-one : (entry : ProcEntry) (s : StoreMap) (left : List Stmt) (t u : StoreMap) → LeftStops program entry s left t →
      LeftStops program entry s left u → t ≡ u
  left-one entry s [] t u h k = settings-one (settings entry.vars (is_left entry.proc) entry.proc.last) s t u h k
  left-one entry s (next ∷ left) t u h k =
      form-one entry s (LeftStops program entry s left) (left-one entry s left) (out-Stmt next) t u h k

  stops-one : (state : State) (t u : StoreMap) → StopsAt program state t → StopsAt program state u → t ≡ u
  stops-one (runs f waiting) t u h k = left-one f.entry f.store f.left t u h k
  stops-one (exited s waiting) t u h k = absurd h

  -- ---- one trace

  module _ (first : ℕ) where
    rests-one : (state : State) (answer reply rest : Answer) (shown other : List Event) (stand also : Stand) →
        Rests first state shown stand × (answer ≡ rest) → Rests first state other also × (reply ≡ rest) → IsOne shown other stand also answer reply
    rests-one state answer reply rest shown other stand also ((none, stands), is) ((empty, rests), says) =
        (none ∙ sym empty, stands ∙ sym rests, is ∙ sym says)

    abbrev OneFrom : ℕ → State → Type 0
    OneFrom n state = (shown other : List Event) (stand also : Stand) (answer reply : Answer) → Traces program first n state shown stand answer →
        Traces program first n state other also reply → IsOne shown other stand also answer reply

    by-one : (n : ℕ) → ((next : State) → OneFrom n next) → (state : State) (turn : Turn) (shown other : List Event) (stand also : Stand)
        (answer reply : Answer) → TracesBy program first state (Traces program first n) turn shown stand answer →
        TracesBy program first state (Traces program first n) turn other also reply → IsOne shown other stand also answer reply
    by-one n one state (goes next) shown other stand also answer reply (after, is, later) (behind, says, rest) =
        let same = one next after behind stand also answer reply later rest in
        (is ∙ ap (λ (events : List Event). state_shows program state ++ events) same.0 ∙ sym says, same.1, same.2)
    by-one n one state (fails why line) shown other stand also answer reply (at, stops, none, stands, is) (place, halts, empty, rests, says) =
        (none ∙ sym empty, stands ∙ ap (stand_at first state) (stops-one state at place stops halts) ∙ sym rests, is ∙ sym says)

    led-one : (n : ℕ) → ((next : State) → OneFrom n next) → (state : State) (turn now : Turn) (shown other : List Event) (stand also : Stand)
        (answer reply : Answer) → Leads program state turn → TracesBy program first state (Traces program first n) turn shown stand answer →
        Leads program state now → TracesBy program first state (Traces program first n) now other also reply → IsOne shown other stand also answer reply
    led-one n one state turn now shown other stand also answer reply leads by goes-on later =
        by-one n one state now shown other stand also answer reply
        (subst (λ it. TracesBy program first state (Traces program first n) it shown stand answer) (turn-one state turn now leads goes-on) by) later

    traces-one : (n : ℕ) (state : State) → OneFrom n state
    traces-one zero (runs f waiting) shown other stand also answer reply h k = rests-one (runs f waiting) answer reply _ shown other stand also h k
    traces-one zero (exited t []) shown other stand also answer reply h k = rests-one (exited t []) answer reply _ shown other stand also h k
    traces-one zero (exited t (w ∷ waiting)) shown other stand also answer reply h k =
        rests-one (exited t (w ∷ waiting)) answer reply _ shown other stand also h k
    traces-one (suc n) (runs f waiting) shown other stand also answer reply (turn, leads, by) (now, goes-on, later) =
        led-one n (traces-one n) (runs f waiting) turn now shown other stand also answer reply leads by goes-on later
    traces-one (suc n) (exited t []) shown other stand also answer reply h k = rests-one (exited t []) answer reply _ shown other stand also h k
    traces-one (suc n) (exited t (w ∷ waiting)) shown other stand also answer reply (turn, leads, by) (now, goes-on, later) =
        led-one n (traces-one n) (exited t (w ∷ waiting)) turn now shown other stand also answer reply leads by goes-on later

  pub trace-one : (number : ℕ) (s : StoreMap) (n : ℕ) (shown other : List Event) (stand also : Stand) (answer reply : Answer) →
      TracedRun program number s n shown stand answer → TracedRun program number s n other also reply →
      (shown ≡ other) × (stand ≡ also) × (answer ≡ reply)
  trace-one number s n shown other stand also answer reply (entry, there, h) (found, here, k) =
      let e = sym there ∙ here in
      let same : entry ≡ found = cc in
      traces-one number n (runs (record { entry = found; store = s; left = found.proc.body }) []) shown other stand also answer reply
      (subst (λ (it : ProcEntry). Traces program number n (runs (record { entry = it; store = s; left = it.proc.body }) []) shown stand answer) same h) k
