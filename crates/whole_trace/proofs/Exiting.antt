-- A run that exits stands at the store of its exit, in the procedure that was run.
use Rattle.std.proofs.Common.{◌≡◌, ◌∙◌, ℕ, zero, suc, List, [], ◌∷◌, refl, sym, ap}
use Rattle.store_core.specs.Stores.{StoreMap}
use Rattle.pale_typed.specs.TypedPrograms.{TypedProgram}
use Rattle.whole_run.specs.States.{State, runs, exited, Turn, goes, fails, Answer, Running, Fail, Exit}
use Rattle.store_trace.specs.declared.event.Event.{Event}
use Rattle.whole_trace.specs.Traces.{Stand, stand_at, TracesBy, Traces, TracedRun}

module _ (program : TypedProgram) where
  module _ (first : ℕ) where
    abbrev Exits : ℕ → State → Type 0
    Exits n state = (shown : List Event) (stand : Stand) (answer : Answer) (t : StoreMap) → Traces program first n state shown stand answer →
        answer ≡ Exit t → stand ≡ record { proc = first; store = t }

    still : (answer : Answer) (t : StoreMap) (X : Type 0) → answer ≡ Running → answer ≡ Exit t → X
    still answer t X is says = let bad : Running ≡ Exit t = sym is ∙ says in absurd cc

    rests-exit : (u t : StoreMap) (stand : Stand) (answer : Answer) → stand ≡ stand_at first (exited u []) u → answer ≡ Exit u → answer ≡ Exit t →
        stand ≡ record { proc = first; store = t }
    rests-exit u t stand answer stands is says =
        let e : Exit u ≡ Exit t = sym is ∙ says in
        let same : u ≡ t = cc in
        stands ∙ ap (λ (s : StoreMap). stand_at first (exited u []) s) same

    by-exit : (n : ℕ) → ((next : State) → Exits n next) → (state : State) (turn : Turn) (shown : List Event) (stand : Stand) (answer : Answer)
        (t : StoreMap) → TracesBy program first state (Traces program first n) turn shown stand answer → answer ≡ Exit t →
        stand ≡ record { proc = first; store = t }
    by-exit n exits state (goes next) shown stand answer t (after, is, later) says = exits next after stand answer t later says
    by-exit n exits state (fails why line) shown stand answer t (at, stops, none, stands, is) says =
        let bad : Fail why line ≡ Exit t = sym is ∙ says in absurd cc

    traces-exit : (n : ℕ) (state : State) → Exits n state
    traces-exit zero (runs f waiting) shown stand answer t h says = still answer t _ h.1 says
    traces-exit zero (exited u []) shown stand answer t h says = rests-exit u t stand answer (h.0).1 h.1 says
    traces-exit zero (exited u (w ∷ waiting)) shown stand answer t h says = still answer t _ h.1 says
    traces-exit (suc n) (runs f waiting) shown stand answer t (turn, leads, by) says =
        by-exit n (traces-exit n) (runs f waiting) turn shown stand answer t by says
    traces-exit (suc n) (exited u []) shown stand answer t h says = rests-exit u t stand answer (h.0).1 h.1 says
    traces-exit (suc n) (exited u (w ∷ waiting)) shown stand answer t (turn, leads, by) says =
        by-exit n (traces-exit n) (exited u (w ∷ waiting)) turn shown stand answer t by says

  pub exit-stands : (number : ℕ) (s : StoreMap) (n : ℕ) (shown : List Event) (stand : Stand) (t : StoreMap) →
      TracedRun program number s n shown stand (Exit t) → stand ≡ record { proc = number; store = t }
  exit-stands number s n shown stand t (entry, there, h) =
      traces-exit number n (runs (record { entry = entry; store = s; left = entry.proc.body }) []) shown stand (Exit t) t h refl
