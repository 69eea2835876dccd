use Rattle.std.proofs.Common.{◌≤◌, reverse, take, sym, ap, ◌∙◌, subst, List, ℕ}
use Rattle.std.specs.List.{AllByRecursion}
use Rattle.store_logic.specs.Expansion.{expanded_bodies}
use Rattle.store_logic.specs.ExpandingSizes.{sized, capped}
use Rattle.store_logic.proofs.ExpandingSizeLemmas.{all-capped}
use Rattle.store_expand.proofs.SizeLemmas.{sizes-next}
use Rattle.store_expand.proofs.size.body_sizes.Goals as goal

pub size_with-requires : goal.size_with-requires
size_with-requires c = subst (AllByRecursion (λ size. size ≤ 65537)) (sym (c.as_slice.ensures.value ∙ c.loop-pred.invariant))
    (all-capped (expanded_bodies (reverse (take c.loop-pred.pred-index c.args.preds.now))))

pub loop-pred-preserved : goal.loop-pred-preserved
loop-pred-preserved c =
    c.in_ok-push.ensures.items
    ∙ sizes-next c.args.preds.now c.loop-pred.pred-index c.pred-item.result c.loop-pred.sizes.items c.in_ok-size.size c.pred-item.is
    c.loop-pred-test.true c.loop-pred.invariant
    (c.in_ok-size.ensures ∙ ap (λ (l : List ℕ). capped (sized l c.pred-item.result.body)) c.as_slice.ensures.value)
