use Rattle.std.proofs.Common.{◌≡◌, [], map, drop}
use Rattle.pale_tables.specs.Names.{repeated_fault}
use Rattle.pale_predicates.proofs.predicates.check_predicate_names.Given as goal

-- the names that came before have no fault
abbrev pub invariant-loop-predicate : goal.invariant-loop-predicate
invariant-loop-predicate l =
    repeated_fault [] (map (λ p. p.now.name) l.predicates)
    ≡ repeated_fault l.before (map (λ p. p.now.name) (drop l.predicate-index l.predicates))
