use Rattle.std.proofs.Common.{◌≡◌, ◌+◌, ◌<◌, ◌∷◌, [], None, drop, subst, sym, ap, ◌∙◌}
use Rattle.std.proofs.lemmas.List.{drop_all}
use Rattle.store_core.specs.Tables.{place_of, variants_of, add_variant}
use Rattle.pale_tables.proofs.StageLemmas.{item-next, VariantsLeft, variants-start, variants-next, variants-end, variant-new, variant-room}
use Rattle.pale_tables.proofs.table.add_variants.Goals as goal

pub loop-name-init : goal.loop-name-init
loop-name-init c = variants-start c.args.table.now c.args.ty c.args.names.now c.requires.known

pub add_variant-requires-clause-new : goal.add_variant-requires-clause-new
add_variant-requires-clause-new c =
    let names = c.args.names.now in
    let i = c.loop-name.name-index in
    let name = c.name-item.result in
    let next : drop i names ≡ name ∷ drop (i + 1) names = item-next names i name c.loop-name-test.true c.name-item.is in
    subst (λ n. place_of n (variants_of c.loop-name.table c.args.ty) ≡ None) (sym c.as_slice.ensures)
    (variant-new c.args.table.now c.loop-name.table c.args.ty names (drop (i + 1) names) name
    (subst (VariantsLeft c.args.table.now c.loop-name.table c.args.ty names) next c.loop-name.invariant) c.requires.new)

pub add_variant-requires-clause-room : goal.add_variant-requires-clause-room
add_variant-requires-clause-room c =
    let names = c.args.names.now in
    let i = c.loop-name.name-index in
    let name = c.name-item.result in
    let next : drop i names ≡ name ∷ drop (i + 1) names = item-next names i name c.loop-name-test.true c.name-item.is in
    variant-room c.args.table.now c.loop-name.table c.args.ty names (drop (i + 1) names) name
    (subst (VariantsLeft c.args.table.now c.loop-name.table c.args.ty names) next c.loop-name.invariant) c.requires.few

pub loop-name-preserved : goal.loop-name-preserved
loop-name-preserved c =
    let names = c.args.names.now in
    let i = c.loop-name.name-index in
    let name = c.name-item.result in
    let next : drop i names ≡ name ∷ drop (i + 1) names = item-next names i name c.loop-name-test.true c.name-item.is in
    subst (λ table. VariantsLeft c.args.table.now table c.args.ty names (drop (i + 1) names))
    (sym (c.in_ok-_variant.ensures.added ∙ ap (add_variant c.loop-name.table c.args.ty) c.as_slice.ensures))
    (variants-next c.args.table.now c.loop-name.table c.args.ty names (drop (i + 1) names) name
    (subst (VariantsLeft c.args.table.now c.loop-name.table c.args.ty names) next c.loop-name.invariant))

pub returns : goal.returns
returns c =
    variants-end c.args.table.now c.loop-name.table c.args.ty c.args.names.now
    (subst (VariantsLeft c.args.table.now c.loop-name.table c.args.ty c.args.names.now)
    (drop_all c.loop-name.name-index c.args.names.now c.loop-name-test.false) c.loop-name.invariant)
