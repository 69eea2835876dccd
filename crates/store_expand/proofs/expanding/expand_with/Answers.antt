use Rattle.std.proofs.Common.{◌≡◌, ◌≤◌, ◌↔◌, List, [], reverse, sym, ap, ◌∙◌, subst, arith}
use Rattle.std.specs.List.{AllByRecursion}
use Rattle.store_logic.specs.declared.assertion.Assertion.{Assertion}
use Rattle.store_logic.specs.declared.pred.PredDef.{PredDef}
use Rattle.store_logic.specs.Satisfaction.{Sat}
use Rattle.store_logic.specs.Sizes.{node_count}
use Rattle.store_logic.specs.Expansion.{expanded_bodies, expansion}
use Rattle.store_logic.specs.Uses.{uses_in}
use Rattle.store_logic.proofs.ExpandingBodies.{Sat-expansion, uses-expansion}
use Rattle.store_logic.proofs.ExpandingSizeLemmas.{all-capped}
use Rattle.store_expand.proofs.SizeLemmas.{size-is}
use Rattle.store_expand.proofs.expanding.expand_with.Goals as goal

pub size_with-requires : goal.size_with-requires
size_with-requires c = subst (AllByRecursion (λ size. size ≤ 65537))
    (sym c.requires.sizes)
    (all-capped (expanded_bodies (reverse c.args.preds.now)))

pub returns-then-branch-gt-MAX_NODES-clause-too_big : goal.returns-then-branch-gt-MAX_NODES-clause-too_big
returns-then-branch-gt-MAX_NODES-clause-too_big c _ =
    let is = size-is c.args.sizes.now c.args.preds.now c.args.assertion.now c.in_ok-size_with.field-0
    c.requires.sizes c.in_ok-size_with.ensures in
    omega (arith, is, c.if-branch-gt-MAX_NODES.true)

-- what is built
expanded-is : (built preds : List PredDef) (a expanded : Assertion) → built ≡ preds → expanded ≡ expansion built a → expanded ≡ expansion preds a
expanded-is built preds a expanded same is = is ∙ ap (λ (l : List PredDef). expansion l a) same

pub returns-clause-small : goal.returns-clause-small
returns-clause-small c =
    let is = size-is c.args.sizes.now c.args.preds.now c.args.assertion.now c.in_ok-size_with.field-0
    c.requires.sizes c.in_ok-size_with.ensures in
    let small : node_count (expansion c.args.preds.now c.args.assertion.now) ≤ 65536 = omega (arith, is, c.if-branch-gt-MAX_NODES.false) in
    subst (λ (a : Assertion). node_count a ≤ 65536)
    (sym (expanded-is c.as_slice.result.now c.args.preds.now c.args.assertion.now c.in_ok-expanded.expanded c.as_slice.ensures
    c.in_ok-expanded.ensures))
    small

pub returns-clause-sound : goal.returns-clause-sound
returns-clause-sound c = λ types vars s on e.
    subst (λ (a : Assertion). Sat types vars c.args.preds.now s on e c.args.assertion.now ↔ Sat types vars [] s on e a)
    (sym (expanded-is c.as_slice.result.now c.args.preds.now c.args.assertion.now c.in_ok-expanded.expanded c.as_slice.ensures
    c.in_ok-expanded.ensures))
    (Sat-expansion types vars c.args.preds.now s on e c.args.assertion.now c.requires.can)

pub returns-clause-whole : goal.returns-clause-whole
returns-clause-whole c =
    ap uses_in (expanded-is c.as_slice.result.now c.args.preds.now c.args.assertion.now c.in_ok-expanded.expanded c.as_slice.ensures
    c.in_ok-expanded.ensures)
    ∙ uses-expansion c.args.preds.now c.args.assertion.now c.requires.can
