use Rattle.std.proofs.Common.{◌≡◌, [], map, drop}
use Rattle.pale_tables.specs.Names.{repeated_fault}
use Rattle.pale_types.proofs.program.check_procedure_names.Given as goal

-- the names that came before have no fault
abbrev pub invariant-loop-procedure : goal.invariant-loop-procedure
invariant-loop-procedure l =
    repeated_fault [] (map (λ p. p.now.name) l.procedures)
    ≡ repeated_fault l.before (map (λ p. p.now.name) (drop l.procedure-index l.procedures))
