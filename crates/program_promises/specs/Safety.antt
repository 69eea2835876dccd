-- Programs whose whole runs don't fail. (Hoare 1969; Møller and Schwartzbach, PLDI 2001.)
use Rattle.std.specs.Prelude.{ℕ, List}
use Rattle.store_core.specs.Stores.{StoreMap}
use Rattle.store_exec.specs.declared.cause.Cause.{Cause}
use Rattle.store_exec.specs.declared.triple.Triple.{Triple}
use Rattle.pale_typed.specs.TypedPrograms.{TypedProgram}
use Rattle.whole_program.specs.ProgramTexts.{IsReadAs}
use Rattle.whole_run.specs.States.{Fail}
use Rattle.whole_run.specs.Runs.{WholeRun}
use Rattle.whole_run.specs.Safety.{MeetsEntry}

-- no procedure's run fails from a store that meets its entry triple, however many steps it has
abbrev pub RunsNeverFail : TypedProgram → Type 0
RunsNeverFail program = (number : ℕ) (s : StoreMap) (n : ℕ) (why : Cause) (line : ℕ) → MeetsEntry program number s →
    WholeRun program number s n (Fail why line) → ⊥

-- the text is that of a program whose runs don't fail
pub record IsSafe (text : List ℕ) : Type 0 where
  pub program : TypedProgram
  pub triples : List Triple
  pub read : IsReadAs text program triples
  pub safe : RunsNeverFail program
