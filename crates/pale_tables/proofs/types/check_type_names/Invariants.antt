use Rattle.std.proofs.Common.{◌≡◌, [], map, drop}
use Rattle.pale_tables.specs.Types.{type_names_fault}
use Rattle.pale_tables.proofs.types.check_type_names.Given as goal

-- the names that came before have no fault
abbrev pub invariant-loop-ty : goal.invariant-loop-ty
invariant-loop-ty l =
    type_names_fault [] (map (λ t. t.now.name) l.types) ≡ type_names_fault l.before (map (λ t. t.now.name) (drop l.ty-index l.types))
