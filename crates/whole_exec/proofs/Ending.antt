-- Where runs end.
use Rattle.std.proofs.Common.{◌≡◌, ℕ, suc, List, [], ◌∷◌, Option, refl, sym, ap, ◌∙◌, subst}
use Rattle.store_core.specs.Stores.{StoreMap}
use Rattle.pale_typed.specs.TypedPrograms.{TypedProgram}
use Rattle.pale_typed.specs.Fitting.{ProgramFits}
use Rattle.hoare_split.proofs.FittingClaimLemmas.{PutsFit}
use Rattle.store_trace.specs.declared.event.Event.{Event}
use Rattle.whole_run.specs.States.{Frame, Waiting, State, runs, exited, fails, Answer, Running, Exit}
use Rattle.whole_run.proofs.AnswerStanding.{Holds}
use Rattle.whole_trace.specs.Traces.{Stand, Rests, Traces, proc_at, stand_at, calls_of}
use Rattle.whole_turns.specs.declared.ending.RunEnd.{RunEnd}
use Rattle.whole_turns.specs.declared.ending.RunEnd.TheVariants as end
use Rattle.whole_exec.specs.Answers.{answer_with, stand_of}
use Rattle.whole_turns.specs.Turning.{EndsAs}
use Rattle.whole_exec.proofs.Going.{IsGoing, IsRecorded, ends_here}
use Rattle.whole_exec.proofs.Naming.{IsNamed, StandFits, rest-fits, stop-fits}

-- an end shows nothing more
pub end_traced : (program : TypedProgram) (first n : ℕ) (state : State) (e : RunEnd) (at : StoreMap) → EndsAs program state e at →
    Traces program first (suc n) state [] (stand_at first state at) (answer_with at e)
end_traced program first n state end.Running at h = absurd h
end_traced program first n (runs f waiting) (end.Fail why line) at (leads, stops) = (fails why line, leads, (at, stops, refl, refl, refl))
end_traced program first n (exited t []) (end.Fail why line) at (leads, stops) = absurd leads
end_traced program first n (exited t (w ∷ waiting)) (end.Fail why line) at (leads, stops) = absurd stops
end_traced program first n state end.Exit at is =
    subst (λ (x : State). Traces program first (suc n) x [] (stand_at first x at) (Exit at)) (sym is) ((refl, refl), refl)

-- and its store fits
pub end_fits : (program : TypedProgram) (number : ℕ) → PutsFit → ProgramFits program → (state : State) (e : RunEnd) (at : StoreMap) →
    EndsAs program state e at → Holds program state → IsNamed program number state → StandFits program number (proc_at number (calls_of state)) at
end_fits program number puts fit state end.Running at h holds named = absurd h
end_fits program number puts fit state (end.Fail why line) at (leads, stops) holds named = stop-fits program number puts fit state at holds named stops
end_fits program number puts fit state end.Exit at is holds named =
    subst (λ (x : State). StandFits program number (proc_at number (calls_of x)) at) (sym is)
    (rest-fits program number (exited at []) (subst (Holds program) is holds) (subst (IsNamed program number) is named))

-- ---- where it rests

module _ (program : TypedProgram) (first : ℕ) where
  pub rests_running : (f : Frame) (waiting : List Waiting) (proc : ℕ) → proc ≡ proc_at first waiting →
      Traces program first 0 (runs f waiting) [] (stand_of proc f.store) Running
  rests_running f waiting proc is = ((refl, ap (λ (n : ℕ). stand_of n f.store) is), refl)

  pub rests_waiting : (t : StoreMap) (w : Waiting) (waiting : List Waiting) → Traces program first 0 (exited t (w ∷ waiting)) []
      (stand_of w.call.callee t) Running
  rests_waiting t w waiting = ((refl, refl), refl)

  pub rests_exited : (t : StoreMap) → Traces program first 0 (exited t []) [] (stand_of first t) (Exit t)
  rests_exited t = ((refl, refl), refl)

-- the end of a run, as it stands
pub ended_at : (program : TypedProgram) (number : ℕ) (s : StoreMap) (steps : ℕ) (before now new : Option (List Event)) (state : State) (left proc : ℕ)
    (waiting : List Waiting) (e : RunEnd) (at : StoreMap) → IsGoing program number s steps before now state (suc left) → EndsAs program state e at →
    waiting ≡ calls_of state → new ≡ now → proc ≡ proc_at number waiting →
    IsRecorded program number s steps before new (stand_of proc at) (answer_with at e)
ended_at program number s steps before now new state left proc waiting e at going ends kept same is =
    subst (λ (o : Option (List Event)). IsRecorded program number s steps before o (stand_of proc at) (answer_with at e)) (sym same)
    (ends_here program number s steps before now state (suc left) (stand_of proc at) (answer_with at e) going
    (subst (λ (n : ℕ). Traces program number (suc left) state [] (stand_of n at) (answer_with at e))
    (sym (is ∙ ap (proc_at number) kept)) (end_traced program number left state e at ends)))

rested : (program : TypedProgram) (number : ℕ) (state : State) (proc : ℕ) (at : StoreMap) → Holds program state → IsNamed program number state →
    Rests number state [] (stand_of proc at) → StandFits program number proc at
rested program number state proc at holds named (none, is) =
    subst (λ (stand : Stand). StandFits program number stand.proc stand.store) (sym is) (rest-fits program number state holds named)

-- where a run rests with no step left its store fits
pub rested_fits : (program : TypedProgram) (number : ℕ) (state : State) (proc : ℕ) (at : StoreMap) (answer : Answer) → Holds program state →
    IsNamed program number state → Traces program number 0 state [] (stand_of proc at) answer → StandFits program number proc at
rested_fits program number (runs f waiting) proc at answer holds named h = rested program number (runs f waiting) proc at holds named h.0
rested_fits program number (exited t []) proc at answer holds named h = rested program number (exited t []) proc at holds named h.0
rested_fits program number (exited t (w ∷ waiting)) proc at answer holds named h =
    rested program number (exited t (w ∷ waiting)) proc at holds named h.0
