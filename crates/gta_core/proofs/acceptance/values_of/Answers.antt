use Rattle.std.proofs.Common.{◌≡◌, ℕ, List, length, map, get_or, Some, refl, sym, ◌∙◌, ap, subst, arith}
use Rattle.std.specs.Prelude.{slice_get}
use Rattle.std.proofs.lemmas.Option.{slice_get_read}
use Rattle.bdd_nodes.specs.Shelf.{label_of}
use Rattle.gta_theory.specs.Guides.{left, right}
use Rattle.ws2s_core.specs.declared.track.Track.{Track}
use Rattle.ws2s_theory.specs.Trees.{value_at}
use Rattle.gta_core.specs.Auto.{guide_of, automaton_of}
use Rattle.gta_core.specs.Accepting.{state_of_child, AreValues}
use Rattle.gta_core.proofs.AcceptingLemmas.{value-turn, AreValues-push}
use Rattle.gta_core.proofs.acceptance.values_of.Goals as goal

pub loop-k-preserved : goal.loop-k-preserved
loop-k-preserved c =
    let shelf = c.args.shelf.now in
    let a = c.args.a.now in
    let g = guide_of a in
    let A = automaton_of shelf a in
    let nodes = c.args.nodes.now in
    let spaces = c.args.spaces.now in
    let values = c.loop-k.values.items in
    let k = c.loop-k.k in
    let s = get_or spaces k 0 in
    let node = c.index-nodes-k.result in
    let at : slice_get nodes k ≡ Some node = slice_get_read nodes (length nodes) k node refl (omega arith) c.index-nodes-k.is in
    let here : k ≡ length values = (let v = c.loop-k.values.ok.0 in let n = c.loop-k.invariant.0 in omega arith) in
    let at_left : c.child_state-at_left.result ≡ state_of_child a values node.left (left g s) =
    c.child_state-at_left.ensures
    ∙ ap (λ (vs : List ℕ). state_of_child a vs node.left c.children-left.result.0) c.deref.ensures.value
    ∙ ap (state_of_child a values node.left) c.children-left.ensures.left in
    let at_right : c.child_state-at_right.result ≡ state_of_child a values node.right (right g s) =
    c.child_state-at_right.ensures
    ∙ ap (λ (vs : List ℕ). state_of_child a vs node.right c.children-left.result.1) c.deref-in-loop-k.ensures.value
    ∙ ap (state_of_child a values node.right) c.children-left.ensures.right in
    let label : c.in_ok-label.label ≡ map (λ (track : Track). track.0) node.tracks =
    c.in_ok-label.ensures ∙ ap (map (λ (track : Track). track.0)) c.as_slice.ensures in
    let value : c.step.result ≡ value_at g A s nodes k =
    c.step.ensures ∙ (λ i. A.step s (at_left i) (at_right i) (label_of (label i)))
    ∙ value-turn shelf a g c.requires.guide c.requires.stable nodes c.requires.tree spaces c.requires.spaces values c.loop-k.invariant.1 k node here at in
    let pushed =
    AreValues-push shelf a g c.requires.guide c.requires.stable nodes c.requires.tree spaces c.requires.spaces values c.loop-k.invariant.1 c.step.result
    (subst (λ (m : ℕ). c.step.result ≡ value_at g A (get_or spaces m 0) nodes m) here value) in (
      (let n = c.loop-k.invariant.0 in let l = c.in_ok-push.ensures.len in omega arith),
      subst (λ (vs : List ℕ). AreValues g A nodes spaces vs) (sym c.in_ok-push.ensures.items) pushed,
    )
