use Rattle.std.proofs.Common.{◌≡◌, ◌++◌, map, filter_map, drop}
use Rattle.pale_types.specs.Programs.{as_type, as_predicate, as_procedure, types_in, predicates_in, procedures_in}
use Rattle.pale_types.proofs.program.sort_declarations.Given as goal

-- the declarations that are left come behind those of their kind
abbrev pub invariant-loop-declaration : goal.invariant-loop-declaration
invariant-loop-declaration l = record {
  types : map (λ t. t.now) l.sorted.types.items ++ filter_map as_type (drop l.declaration-index l.declaration-items) ≡ types_in l.program;
  predicates : map (λ p. p.now) l.sorted.predicates.items ++ filter_map as_predicate (drop l.declaration-index l.declaration-items) ≡ predicates_in l.program;
  procedures : map (λ p. p.now) l.sorted.procedures.items ++ filter_map as_procedure (drop l.declaration-index l.declaration-items) ≡ procedures_in l.program;
}
