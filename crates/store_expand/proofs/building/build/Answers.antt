use Rattle.std.proofs.Common.{map, ap, ◌∙◌}
use Rattle.store_logic.specs.Postfix.{postfix_of, run_on}
use Rattle.store_logic.specs.Expansion.{expansion}
use Rattle.store_logic.proofs.PostfixLemmas.{run_on-whole, applied-next}
use Rattle.store_expand.specs.Places.{form_there}
use Rattle.store_expand.proofs.StepLemmas.{forms-there}
use Rattle.store_expand.proofs.building.build.Goals as goal

pub loop-place-init : goal.loop-place-init
loop-place-init c =
    ap (λ places. run_on (map form_there places) c.new-made.result) c.as_slice-place-items.ensures.value
    ∙ ap (λ forms. run_on forms c.new-made.result) (forms-there c.in_ok-places.places.items ∙ c.in_ok-places.ensures)
    ∙ ap (λ made. run_on (postfix_of (expansion c.args.preds.now c.args.assertion.now)) made) c.new-made.ensures
    ∙ run_on-whole (expansion c.args.preds.now c.args.assertion.now)

pub make-requires : goal.make-requires
make-requires c = applied-next form_there c.as_slice-place-items.result.now c.loop-place.place-index c.place-item.result
    c.place-item.is c.loop-place-test.true _ _ c.loop-place.invariant
