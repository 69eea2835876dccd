use Rattle.std.proofs.Common.{◌≡◌, ◌++◌, map, drop}
use Rattle.pale_tables.specs.Faults.{first_of}
use Rattle.pale_procedures.specs.Statements.{statement_fault, typed_statement}
use Rattle.pale_procedures.proofs.statements.+statements.Given as goal

-- what came before has no fault, and the statements that are left come behind those that were found
abbrev pub invariant-read_block-loop-statement : goal.invariant-read_block-loop-statement
invariant-read_block-loop-statement l = record {
  frame : l.frame ≡ l.initial.frame;
  faults : first_of (statement_fault l.basis l.initial.frame) l.block
      ≡ first_of (statement_fault l.basis l.initial.frame) (drop l.statement-index l.block);
  found : l.found ++ map (typed_statement l.basis l.initial.frame) (drop l.statement-index l.block)
      ≡ map (typed_statement l.basis l.initial.frame) l.block;
}
