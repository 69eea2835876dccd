use Rattle.std.proofs.Common.{◌+◌, take, slice_get, ap, sym, ◌∙◌, subst}
use Rattle.std.proofs.lemmas.Option.{get_or_from_slice_get}
use Rattle.ws2s_core.specs.declared.node.FormulaId.{FormulaId}
use Rattle.ws2s_core.specs.Nodes.{HasPartsBelow}
use Rattle.cert_check.specs.Numbering.{AreForms}
use Rattle.cert_check.proofs.NumberingLemmas.{get-inside, forms-push}
use Rattle.cert_check.proofs.numbering.forms.Goals as goal

pub loop-place-preserved : goal.loop-place-preserved
loop-place-preserved c =
    let formulas = c.args.interner.now in
    let ids = c.args.ids.now in
    let place = c.loop-place.place in
    let node = c.in-Some.node in
    let numbered = c.if-id-place.false in
    let found = get-inside ids place c.loop-place-test.true in
    subst (AreForms formulas (take (place + 1) ids)) (sym c.in_ok-push.ensures.ok)
    (forms-push formulas ids place found.0 c.loop-place.nodes node found.1
    (ap (λ (id : FormulaId). id.0) (sym (get_or_from_slice_get ids place found.0 _ found.1)) ∙ numbered)
    (record {
      formula = ap (slice_get formulas) (sym numbered) ∙ sym c.in-Some.ensures.value;
      below = subst (λ n. HasPartsBelow n node) numbered c.in-Some.ensures.parts;
    }) c.loop-place.invariant)
