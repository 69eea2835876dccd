-- What a program is typed as.
use Rattle.std.specs.Prelude.{List}
use Rattle.store_core.specs.Tables.{TypeEntry}
use Rattle.pale_typed.specs.declared.typed.ProcEntry.{ProcEntry}

-- its types, and its procedures with their variables, in order of the text
pub record TypedProgram : Type 0 where
  pub types : List TypeEntry
  pub procs : List ProcEntry
