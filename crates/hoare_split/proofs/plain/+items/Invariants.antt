use Rattle.std.proofs.Common.{List, drop}
use Rattle.store_core.specs.Tables.{VarEntry}
use Rattle.pale_typed.specs.declared.typed.ProcEntry.{ProcEntry}
use Rattle.hoare_split.specs.Statements.{block_of}
use Rattle.hoare_split.proofs.PlainLemmas.{WithMore}
use Rattle.hoare_split.proofs.plain.+items.Given as goal

-- where no cut is inside, the items so far and those that are left are all
abbrev pub invariant-items_of-loop-stmt : goal.invariant-items_of-loop-stmt
invariant-items_of-loop-stmt l = (procs : List ProcEntry) (vars : List VarEntry) →
    WithMore l.items (block_of procs vars (drop l.stmt-index l.block)).items (block_of procs vars l.block).items
