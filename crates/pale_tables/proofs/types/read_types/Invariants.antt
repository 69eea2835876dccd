use Rattle.std.proofs.Common.{◌≡◌, ◌++◌, map, drop}
use Rattle.pale_tables.specs.Faults.{first_of}
use Rattle.pale_tables.specs.Types.{declaration_fault, type_entry, type_row}
use Rattle.pale_tables.proofs.types.read_types.Given as goal

-- what came before has no fault, and the types that are left come behind those that were read
abbrev pub invariant-loop-ty : goal.invariant-loop-ty
invariant-loop-ty l = record {
  faults : first_of (declaration_fault l.names) (map (λ t. t.now) l.types)
      ≡ first_of (declaration_fault l.names) (map (λ t. t.now) (drop l.ty-index l.types));
  rows : map type_row l.rows ++ map (type_entry l.names) (map (λ t. t.now) (drop l.ty-index l.types))
      ≡ map (type_entry l.names) (map (λ t. t.now) l.types);
}
