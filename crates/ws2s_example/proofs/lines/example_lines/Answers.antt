use Rattle.std.proofs.Common.{◌≡◌, ◌++◌, ◌∷◌, ◌+◌, [], take, length, get_or, slice_get, Some, subst, sym, ap, ◌∙◌, arith}
use Rattle.std.proofs.lemmas.List.{take_more, length-take-le}
use Rattle.ws2s_core.specs.LabelTrees.{assignment_of}
use Rattle.ws2s_example.specs.Examples.{AreLines, none, IsValueText, value_text, line_of}
use Rattle.ws2s_example.specs.Texts.{texts_of}
use Rattle.ws2s_example.proofs.ListLemmas.{at-place}
use Rattle.ws2s_example.proofs.LinesLemmas.{AreLines-push, IsValueText-texts}
use Rattle.ws2s_example.proofs.lines.example_lines.Goals as goal

pub loop-place-init : goal.loop-place-init
loop-place-init c = subst (AreLines (assignment_of c.args.tree.now) 0 []) (sym c.new-text.ensures.items) (none 0)

pub loop-place-preserved : goal.loop-place-preserved
loop-place-preserved c =
    let a = assignment_of c.args.tree.now in
    let free = c.args.free.now in
    let place = c.loop-place.place in
    let variable = c.variable-item.result in
    let set = c.index.result.now in
    let is_free = c.as_slice-variable-items.ensures in
    let at : slice_get free place ≡ Some variable = subst (λ vs. slice_get vs place ≡ Some variable) is_free
    (at-place c.as_slice-variable-items.result.now place variable variable c.loop-place-test.true (sym c.variable-item.is)) in
    let here = subst (λ vs. get_or vs place variable ≡ variable) is_free (sym c.variable-item.is) in
    let longer : take (place + 1) free ≡ take place free ++ variable ∷ [] =
    take_more free place variable (omega (arith, c.loop-place-test.true, ap length is_free)) ∙ ap (λ v. take place free ++ v ∷ []) here in
    let at_set : slice_get c.in_ok-sets.sets.items place ≡ Some set =
    at-place c.in_ok-sets.sets.items place set set
    (omega (arith, c.in_ok-sets.ensures.long, c.len.ensures, c.loop-place-test.true, ap length is_free)) (sym c.index.ensures) in
    let shown : place ≡ 0 + length (take place free) =
    omega (arith, length-take-le place free (omega (arith, c.loop-place-test.true, ap length is_free))) in
    let has = IsValueText-texts variable (a place) (texts_of set) (c.in_ok-sets.ensures.texts place set at_set) (λ is. c.requires place variable at is) in
    let pushed = AreLines-push a 0 (take place free) variable c.loop-place.text.items (value_text variable (texts_of set)) c.loop-place.invariant
    (subst (λ n. IsValueText variable (a n) (value_text variable (texts_of set))) shown has) in
    subst (AreLines a 0 (take (place + 1) free)) (sym c.in_ok-push_line.ensures)
    (subst (λ vs. AreLines a 0 vs (c.loop-place.text.items ++ line_of variable (value_text variable (texts_of set)))) (sym longer) pushed)
