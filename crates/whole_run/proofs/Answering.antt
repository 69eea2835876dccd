-- Whole runs have an answer.
use Rattle.std.proofs.Common.{◌≡◌, ◌+◌, ℕ, zero, suc, List, [], ◌∷◌, Some, slice_get, refl}
use Rattle.store_core.specs.Stores.{StoreMap, Fits, IsFresh}
use Rattle.pale_typed.specs.declared.typed.ProcEntry.{ProcEntry}
use Rattle.pale_typed.specs.TypedPrograms.{TypedProgram}
use Rattle.pale_typed.specs.Fitting.{ProcFits, ProgramFits}
use Rattle.hoare_split.proofs.FittingVariableLemmas.{all-at}
use Rattle.whole_run.specs.States.{Waiting, State, runs, exited, Turn, goes, fails, Answer, Running, Fail, Exit}
use Rattle.whole_run.specs.Handing.{returned_store}
use Rattle.whole_run.specs.Turns.{Returns}
use Rattle.whole_run.specs.Runs.{EndsBy, Ends, WholeRun}
use Rattle.whole_run.proofs.AnswerLaws.{Laws}
use Rattle.whole_run.proofs.AnswerStanding.{Holds, next_of, OnTurn}
use Rattle.whole_run.proofs.AnswerSteps.{takes_on}
use Rattle.whole_run.proofs.AnswerReturning.{returns_on}
use Rattle.whole_run.proofs.Leading.{takes_end}

module _ (law : Laws) (program : TypedProgram) (fits : ProgramFits program) where
  -- a call's callee is there when it returns
  returns_end : (t : StoreMap) (w : Waiting) (waiting : List Waiting) → Holds program (exited t (w ∷ waiting)) →
      (turn : Turn) × Returns program t w waiting turn
  returns_end t w waiting (callee, x, done) =
      let from = done.stands in
      let called = from.2 in (
        goes (runs (record w.caller { store = returned_store w.caller.entry.vars w.call callee.proc.results w.caller.store t }) waiting),
        (callee, called.there, refl),
      )

  -- the rest of the run has an answer, or a cause is the answer
  after_turn : (Later : State → Answer → Type 0) (most : ℕ) → ((next : State) → Holds program next → (answer : Answer) × Later next answer) →
      (turn : Turn) → OnTurn program most turn → (answer : Answer) × EndsBy Later turn answer
  after_turn Later most later (goes next) on = later next on.0
  after_turn Later most later (fails why line) on = (Fail why line, refl)

  ends_so : (n : ℕ) (state : State) → Holds program state → (answer : Answer) × Ends program n state answer
  ends_so zero (runs f waiting) holds = (Running, refl)
  ends_so zero (exited t []) holds = (Exit t, refl)
  ends_so zero (exited t (w ∷ waiting)) holds = (Running, refl)
  ends_so (suc n) (runs f waiting) holds =
      let step = takes_end law.puts program fits f.entry waiting f.left f.store (holds.fitting).statements holds.well in
      let end = after_turn (Ends program n) (next_of (runs f waiting) + 1) (ends_so n) step.0
      (takes_on law program fits f.entry waiting f.left f.store step.0 holds step.1) in
      (end.0, (step.0, step.1, end.1))
  ends_so (suc n) (exited t []) holds = (Exit t, refl)
  ends_so (suc n) (exited t (w ∷ waiting)) holds =
      let step = returns_end t w waiting holds in
      let end = after_turn (Ends program n) (t.next + 1) (ends_so n) step.0 (returns_on law program fits t w waiting step.0 holds step.1) in
      (end.0, (step.0, step.1, end.1))

  pub some_answer : (number : ℕ) (entry : ProcEntry) (s : StoreMap) (n : ℕ) → slice_get program.procs number ≡ Some entry →
      Fits program.types entry.vars s → IsFresh s → (answer : Answer) × WholeRun program number s n answer
  some_answer number entry s n there fit fresh =
      let proc : ProcFits program.types program.procs entry = all-at (ProcFits program.types program.procs) program.procs number entry fits.procs there in
      let end = ends_so n (runs (record { entry = entry; store = s; left = entry.proc.body }) [])
      (record { fitting = record { proc = proc; statements = proc.body }; well = record { fits = fit; fresh = fresh }; stands = tt }) in
      (end.0, (entry, there, end.1))
