use Rattle.std.proofs.Common.{ℕ, ◌≤◌, List, reverse, sym, ap, ◌∙◌, subst}
use Rattle.std.specs.List.{AllByRecursion}
use Rattle.store_logic.specs.Expansion.{expanded_bodies}
use Rattle.store_logic.proofs.ExpandingSizeLemmas.{all-capped}
use Rattle.store_logic.specs.ExpandingSizes.{sized, capped}
use Rattle.store_expand.specs.Sizes.{sizes_of}
use Rattle.store_expand.proofs.SizeLemmas.{sizes-added}
use Rattle.store_expand.proofs.sized.SizedPreds.add.Goals as goal

pub size_with-requires : goal.size_with-requires
size_with-requires c =
    subst (AllByRecursion (λ size. size ≤ 65537)) (sym (c.as_slice.ensures.value ∙ c.self.invariant))
    (all-capped (expanded_bodies (reverse c.self.inside.preds)))

pub invariant_of-self-in-Ok : goal.invariant_of-self-in-Ok
invariant_of-self-in-Ok c =
    c.in_ok-push.ensures.items
    ∙ sizes-added c.self.inside.preds c.args.pred c.self.inside.sizes.items c.in_ok-size.size c.self.invariant
    (c.in_ok-size.ensures ∙ ap (λ (l : List ℕ). capped (sized l c.args.pred.body)) c.as_slice.ensures.value)
    ∙ ap sizes_of (sym c.in-Ok.ensures.ok)
