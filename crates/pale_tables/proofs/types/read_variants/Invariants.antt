use Rattle.std.proofs.Common.{◌≡◌, ◌++◌, [], map, drop, length}
use Rattle.pale_tables.specs.Types.{variants_fault, variant_fields, variant_name, field_row}
use Rattle.pale_tables.proofs.types.read_variants.Given as goal

-- what came before has no fault, and the variants that are left come behind those that were read
abbrev pub invariant-loop-variant : goal.invariant-loop-variant
invariant-loop-variant l = record {
  faults : variants_fault l.names l.initial.before [] l.variants ≡ variants_fault l.names l.before l.named (drop l.variant-index l.variants);
  names : l.list ++ map variant_name (drop l.variant-index l.variants) ≡ map variant_name l.variants;
  rows : map field_row l.rows ++ variant_fields l.names (length l.named) (drop l.variant-index l.variants)
      ≡ map field_row l.initial.rows ++ variant_fields l.names 0 l.variants;
}
