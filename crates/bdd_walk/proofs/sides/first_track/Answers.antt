use Rattle.std.proofs.Common.{ℕ, ◌++◌, ◌∷◌, [], List, Option, take, get_or, sym, ◌∙◌, ap, subst}
use Rattle.std.proofs.lemmas.List.{take_more}
use Rattle.bdd_nodes.specs.declared.node_ref.NodeRef.{NodeRef}
use Rattle.bdd_walk.specs.Sides.{earlier_of, IsFirstOf}
use Rattle.bdd_walk.proofs.SidesLemmas.{valid-at, IsFirstOf-push}
use Rattle.bdd_walk.proofs.sides.first_track.Goals as goal

pub top-requires : goal.top-requires
top-requires c = valid-at c.args.shelf.now c.args.roots.now c.loop-root.root-index _ c.requires c.loop-root-test.true

pub loop-root-preserved : goal.loop-root-preserved
loop-root-preserved c =
    let none : NodeRef = record { word = 0 } in
    let root = get_or c.args.roots.now c.loop-root.root-index none in
    let before = take c.loop-root.root-index c.args.roots.now in
    subst (λ (rs : List NodeRef). IsFirstOf c.args.shelf.now rs c.earlier-first.result)
    (sym (take_more c.args.roots.now c.loop-root.root-index none c.loop-root-test.true))
    (subst (λ (first : Option ℕ). IsFirstOf c.args.shelf.now (before ++ root ∷ []) first)
    (sym (c.earlier-first.ensures ∙ ap (λ (top : Option ℕ). earlier_of c.loop-root.first top) c.top.ensures.value))
    (IsFirstOf-push c.args.shelf.now before root c.loop-root.first c.loop-root.invariant))
