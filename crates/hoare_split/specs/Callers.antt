-- What stands around the statements of a procedure, and what they mean there.
use Rattle.std.specs.Prelude.{List}
use Rattle.store_core.specs.Tables.{VarEntry}
use Rattle.pale_typed.specs.declared.typed.ProcEntry.{ProcEntry}
use Rattle.pale_typed.specs.declared.typed.Stmt.{Stmt}
use Rattle.hoare_split.specs.declared.caller.Caller.{Caller}
use Rattle.hoare_split.specs.Passages.{Passage}
use Rattle.hoare_split.specs.Statements.{passage_of, block_of}

abbrev pub procs_of : Caller → List ProcEntry
procs_of caller = caller.program.now.procs

abbrev pub vars_of : Caller → List VarEntry
vars_of caller = caller.vars.now

abbrev pub entry_of : Caller → ProcEntry
entry_of caller = record { vars = caller.vars.now; proc = caller.proc.now }

abbrev pub statement_in : Caller → Stmt → Passage
statement_in caller s = passage_of (procs_of caller) (vars_of caller) s

abbrev pub block_in : Caller → List Stmt → Passage
block_in caller block = block_of (procs_of caller) (vars_of caller) block
