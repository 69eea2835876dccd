-- Whole runs: a procedure of a program runs on a store for at most so many steps.
use Rattle.std.specs.Prelude.{◌≡◌, ℕ, zero, suc, [], ◌∷◌, Some, slice_get}
use Rattle.store_core.specs.Stores.{StoreMap}
use Rattle.pale_typed.specs.declared.typed.ProcEntry.{ProcEntry}
use Rattle.pale_typed.specs.TypedPrograms.{TypedProgram}
use Rattle.whole_run.specs.States.{State, runs, exited, Turn, goes, fails, Answer, Running, Fail, Exit}
use Rattle.whole_run.specs.Turns.{Takes, Returns}

-- a cause ends the run; else it goes on from the next state
abbrev pub EndsBy : (State → Answer → Type 0) → Turn → Answer → Type 0
EndsBy Later (goes next) answer = Later next answer
EndsBy Later (fails why line) answer = answer ≡ Fail why line

-- the answer of a run that stands here with these steps left: with none left where one is needed it is still running
abbrev pub Ends : TypedProgram → ℕ → State → Answer → Type 0
Ends program zero (runs f waiting) answer = answer ≡ Running
Ends program zero (exited t []) answer = answer ≡ Exit t
Ends program zero (exited t (w ∷ waiting)) answer = answer ≡ Running
Ends program (suc n) (runs f waiting) answer =
    (turn : Turn) × Takes program f.entry waiting f.store f.left turn × EndsBy (Ends program n) turn answer
Ends program (suc n) (exited t []) answer = answer ≡ Exit t
Ends program (suc n) (exited t (w ∷ waiting)) answer = (turn : Turn) × Returns program t w waiting turn × EndsBy (Ends program n) turn answer

-- the procedure of this number, from its entry with the store, for at most n steps
abbrev pub WholeRun : TypedProgram → ℕ → StoreMap → ℕ → Answer → Type 0
WholeRun program number s n answer =
    (entry : ProcEntry) × (slice_get program.procs number ≡ Some entry)
    × Ends program n (runs (record { entry = entry; store = s; left = entry.proc.body }) []) answer
