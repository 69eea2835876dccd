use Rattle.std.proofs.Common.{◌≡◌, ◌+◌, ◌∷◌, drop, map, sym, ap, ◌∙◌}
use Rattle.std.proofs.lemmas.List.{at_drop_more}
use Rattle.pale_tables.specs.Names.{with_name}
use Rattle.pale_tables.specs.Types.{noted, with_variants}
use Rattle.pale_tables.proofs.TypesLemmas.{with_types, with_one, types_next}
use Rattle.pale_tables.proofs.types.read_names.Goals as goal

made : (c : goal.In_ok-note_variants) → c.note_variants.new.names ≡ with_one c.ty-item.result.now c.loop-ty.names
made c =
    let t = c.ty-item.result.now in
    c.in_ok-note_variants.ensures
    ∙ ap (λ variants. with_variants variants c.note_fields.new.names) c.as_slice-in-loop-ty-2.ensures
    ∙ ap (with_variants t.variants)
    (c.in_ok-note_fields.ensures
    ∙ ap (λ fields. noted fields (record c.loop-ty.names { types = c.add.new.self })) c.as_slice-in-loop-ty.ensures
    ∙ ap (λ types. noted t.fields (record c.loop-ty.names { types = types }))
    (c.in_ok-add.ensures.added ∙ ap (with_name c.loop-ty.names.types) c.as_slice.ensures))

pub loop-ty-preserved : goal.loop-ty-preserved
loop-ty-preserved c =
    let ts = c.args.types.now in
    let i = c.loop-ty.ty-index in
    let t = c.ty-item.result in
    let next : drop i ts ≡ t ∷ drop (i + 1) ts = at_drop_more (λ l. l) ts i t c.loop-ty-test.true ∙ ap (λ y. y ∷ drop (i + 1) ts) (sym c.ty-item.is) in
    ap (with_types (map (λ t. t.now) (drop (i + 1) ts))) (made c)
    ∙ sym (types_next t.now (map (λ t. t.now) (drop (i + 1) ts)) c.loop-ty.names)
    ∙ ap (λ l. with_types (map (λ t. t.now) l) c.loop-ty.names) (sym next)
    ∙ c.loop-ty.invariant
