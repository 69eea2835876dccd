use Rattle.std.proofs.Common.{◌≡◌, ◌+◌, ◌∷◌, drop, map, flat_map, fold, sym, ap, ◌∙◌}
use Rattle.std.proofs.lemmas.List.{at_drop_more}
use Rattle.pale_syntax.specs.declared.tree.declaration.VariantDeclaration.{VariantDeclaration}
use Rattle.pale_tables.specs.Names.{with_name}
use Rattle.pale_tables.specs.Types.{noted, variant_name}
use Rattle.pale_tables.proofs.TypesLemmas.{noted_append}
use Rattle.pale_tables.proofs.types.note_variants.Goals as goal

pub loop-variant-preserved : goal.loop-variant-preserved
loop-variant-preserved c =
    let vs = c.args.variants.now in
    let i = c.loop-variant.variant-index in
    let v = c.variant-item.result in
    let next : drop i vs ≡ v ∷ drop (i + 1) vs =
    at_drop_more (λ l. l) vs i v c.loop-variant-test.true ∙ ap (λ y. y ∷ drop (i + 1) vs) (sym c.variant-item.is) in
    record {
      fields =
          ap (noted (flat_map (λ (v : VariantDeclaration). v.fields) (drop (i + 1) vs)))
          (c.in_ok-note_fields.ensures ∙ ap (λ fields. noted fields c.loop-variant.names) c.as_slice-in-loop-variant.ensures)
          ∙ sym (noted_append v.fields (flat_map (λ (v : VariantDeclaration). v.fields) (drop (i + 1) vs)) c.loop-variant.names)
          ∙ ap (λ l. noted (flat_map (λ (v : VariantDeclaration). v.fields) l) c.loop-variant.names) (sym next)
          ∙ c.loop-variant.invariant.fields;
      named =
          ap (λ names. fold with_name names (map variant_name (drop (i + 1) vs)))
          (c.in_ok-add.ensures.added ∙ ap (with_name c.loop-variant.named) c.as_slice.ensures)
          ∙ ap (λ l. fold with_name c.loop-variant.named (map variant_name l)) (sym next)
          ∙ c.loop-variant.invariant.named;
    }
