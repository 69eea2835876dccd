use Rattle.std.proofs.Common.{◌≡◌, List, drop, is_some}
use Rattle.store_core.specs.Tables.{VarEntry}
use Rattle.pale_typed.specs.declared.typed.ProcEntry.{ProcEntry}
use Rattle.hoare_split.specs.Statements.{block_of}
use Rattle.hoare_split.proofs.plain.+cuts.Given as goal

-- no cut stands among those so far
abbrev pub invariant-has_cut-loop-stmt : goal.invariant-has_cut-loop-stmt
invariant-has_cut-loop-stmt l = (procs : List ProcEntry) (vars : List VarEntry) →
    is_some (block_of procs vars l.block).items ≡ is_some (block_of procs vars (drop l.stmt-index l.block)).items
