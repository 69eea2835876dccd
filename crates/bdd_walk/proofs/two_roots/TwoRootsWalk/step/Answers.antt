use Rattle.std.proofs.Common.{ℕ, Option, ◌≡◌, Some, [], ◌∷◌, sym, ◌∙◌, ap, subst}
use Rattle.bdd_nodes.specs.Shelf.{top_of}
use Rattle.bdd_walk.specs.declared.two_roots.RefPair.{RefPair}
use Rattle.bdd_walk.specs.Sides.{earlier_of, IsFirstOf}
use Rattle.bdd_walk.proofs.KeysLemmas.{left-valid, right-valid, IsFirstOf-two, IsSplit-refs}
use Rattle.bdd_walk.proofs.two_roots.TwoRootsWalk.step.Goals as goal

pub top-requires : goal.top-requires
top-requires c = left-valid c.args.shelf.now c.args.pair.now.left c.args.pair.now.right c.requires

pub top-requires-2 : goal.top-requires-2
top-requires-2 c = right-valid c.args.shelf.now c.args.pair.now.left c.args.pair.now.right c.requires

pub returns : goal.returns
returns c = λ before is_shelf keeps inside.
    let now = c.args.shelf.now in
    let pair = c.args.pair.now in
    let first : Some c.in-Some.track ≡ earlier_of (top_of now pair.left) (top_of now pair.right) =
    c.in-Some.ensures ∙ ap (λ (top : Option ℕ). earlier_of top c.top-2.result) c.top.ensures.value
    ∙ ap (λ (top : Option ℕ). earlier_of (top_of now pair.left) top) c.top-2.ensures.value in
    IsSplit-refs (λ (p : RefPair). p.left ∷ p.right ∷ []) before now is_shelf keeps c.in-Some.track pair c.sides_of.result c.sides_of-2.result inside
    (subst (IsFirstOf now (pair.left ∷ pair.right ∷ [])) (sym first) (IsFirstOf-two now pair.left pair.right))
    c.sides_of.ensures c.sides_of-2.ensures
