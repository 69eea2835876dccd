use Rattle.std.proofs.Common.{◌≡◌, ℕ, ◌≤◌, ◌<◌, List, true, false, nat_lt, reverse, sym, ap, ◌∙◌, subst, arith}
use Rattle.std.specs.List.{AllByRecursion}
use Rattle.store_logic.specs.declared.assertion.Assertion.{Assertion}
use Rattle.store_logic.specs.declared.pred.PredDef.{PredDef}
use Rattle.store_logic.specs.Sizes.{node_count}
use Rattle.store_logic.specs.ExpandingSizes.{capped}
use Rattle.store_logic.specs.Expansion.{expanded_bodies, expansion}
use Rattle.store_logic.proofs.ExpandingSizeLemmas.{all-capped}
use Rattle.store_expand.proofs.SizeLemmas.{size-is}
use Rattle.store_expand.proofs.sized.SizedPreds.is_too_big.Goals as goal

pub size_with-requires : goal.size_with-requires
size_with-requires c =
    subst (AllByRecursion (λ size. size ≤ 65537)) (sym (c.as_slice.ensures.value ∙ c.self.invariant))
    (all-capped (expanded_bodies (reverse c.self.inside.preds)))

more : (n : ℕ) → 65536 < n → true ≡ nat_lt 65536 n
more n above = grind arith

fewer : (n : ℕ) → n ≤ 65536 → false ≡ nat_lt 65536 n
fewer n within = grind arith

-- what is counted
counted : (preds now : List PredDef) (a : Assertion) (size : ℕ) → size ≡ capped (node_count (expansion preds a)) → preds ≡ now →
    size ≡ capped (node_count (expansion now a))
counted preds now a size is same = is ∙ ap (λ (l : List PredDef). capped (node_count (expansion l a))) same

pub returns-then-branch-gt-MAX_NODES : goal.returns-then-branch-gt-MAX_NODES
returns-then-branch-gt-MAX_NODES c =
    let is = counted c.self.inside.preds c.args.self.now c.args.assertion.now c.in_ok-size_with.field-0
    (size-is c.as_slice.result.now c.self.inside.preds c.args.assertion.now c.in_ok-size_with.field-0
    (c.as_slice.ensures.value ∙ c.self.invariant) c.in_ok-size_with.ensures) c.self.view_is in
    more (node_count (expansion c.args.self.now c.args.assertion.now)) (omega (arith, is, c.if-branch-gt-MAX_NODES.true))

pub returns : goal.returns
returns c =
    let is = counted c.self.inside.preds c.args.self.now c.args.assertion.now c.in_ok-size_with.field-0
    (size-is c.as_slice.result.now c.self.inside.preds c.args.assertion.now c.in_ok-size_with.field-0
    (c.as_slice.ensures.value ∙ c.self.invariant) c.in_ok-size_with.ensures) c.self.view_is in
    fewer (node_count (expansion c.args.self.now c.args.assertion.now)) (omega (arith, is, c.if-branch-gt-MAX_NODES.false))
