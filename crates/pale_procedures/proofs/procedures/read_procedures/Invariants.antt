use Rattle.std.proofs.Common.{◌≡◌, ◌++◌, map, drop}
use Rattle.pale_tables.specs.Faults.{first_of}
use Rattle.pale_procedures.specs.Procedures.{procedure_fault, typed_procedure}
use Rattle.pale_procedures.proofs.procedures.read_procedures.Given as goal

-- what came before has no fault, and the procedures that are left come behind those that were read
abbrev pub invariant-loop-procedure : goal.invariant-loop-procedure
invariant-loop-procedure l = record {
  faults : first_of (procedure_fault l.basis) (map (λ p. p.now) l.procedures)
      ≡ first_of (procedure_fault l.basis) (map (λ p. p.now) (drop l.procedure-index l.procedures));
  entries : l.entries ++ map (typed_procedure l.basis) (map (λ p. p.now) (drop l.procedure-index l.procedures))
      ≡ map (typed_procedure l.basis) (map (λ p. p.now) l.procedures);
}
