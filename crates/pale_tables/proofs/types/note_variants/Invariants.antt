use Rattle.std.proofs.Common.{◌≡◌, drop, flat_map, map, fold}
use Rattle.pale_tables.specs.Names.{with_name, each_once}
use Rattle.pale_tables.specs.Types.{noted, variant_name}
use Rattle.pale_tables.proofs.types.note_variants.Given as goal

abbrev pub invariant-loop-variant : goal.invariant-loop-variant
invariant-loop-variant l = record {
  fields : noted (flat_map (λ v. v.fields) (drop l.variant-index l.variants)) l.names ≡ noted (flat_map (λ v. v.fields) l.variants) l.initial.names;
  named : fold with_name l.named (map variant_name (drop l.variant-index l.variants)) ≡ each_once (map variant_name l.variants);
}
