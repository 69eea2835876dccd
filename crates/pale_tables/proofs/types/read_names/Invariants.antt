use Rattle.std.proofs.Common.{◌≡◌, drop, map}
use Rattle.pale_tables.specs.Types.{names_in}
use Rattle.pale_tables.proofs.TypesLemmas.{with_types}
use Rattle.pale_tables.proofs.types.read_names.Given as goal

abbrev pub invariant-loop-ty : goal.invariant-loop-ty
invariant-loop-ty l = with_types (map (λ t. t.now) (drop l.ty-index l.types)) l.names ≡ names_in (map (λ t. t.now) l.types)
