-- Stores from which a procedure can be run.
use Rattle.std.specs.Prelude.{◌≡◌, ◌+◌, ◌<◌, ℕ, Some, slice_get}
use Rattle.store_core.specs.Stores.{StoreMap, Fits, IsFresh}
use Rattle.pale_typed.specs.declared.typed.ProcEntry.{ProcEntry}
use Rattle.pale_typed.specs.TypedPrograms.{TypedProgram}

-- there is a procedure of this number, the store fits its variables and is fresh, and each step finds a number for a new cell
pub record CanStart (program : TypedProgram) (number : ℕ) (s : StoreMap) (steps : ℕ) : Type 0 where
  pub entry : ProcEntry
  pub there : slice_get program.procs number ≡ Some entry
  pub fits : Fits program.types entry.vars s
  pub fresh : IsFresh s
  pub room : s.next + steps < 4294967295
