use Rattle.std.proofs.Common.{◌≡◌, ℕ, List, length, get_or, Some, refl, sym, ◌∙◌, ap, subst, arith, inl, inr}
use Rattle.std.specs.Prelude.{slice_get}
use Rattle.std.proofs.lemmas.Option.{slice_get_read}
use Rattle.gta_theory.specs.Guides.{left, right}
use Rattle.gta_core.proofs.AcceptingLemmas.{child-before}
use Rattle.gta_pinned.specs.Shapes.{IsShaped, shapes_in}
use Rattle.gta_pinned.specs.States.{child_state, IsNodeState, AreStates}
use Rattle.gta_pinned.proofs.MakingLemmas.{Makes-trans}
use Rattle.gta_pinned.proofs.ListsLemmas.{AreStates-push, child-shaped}
use Rattle.gta_pinned.proofs.states.states_of.Goals as goal

pub state_of-requires-clause-left : goal.state_of-requires-clause-left
state_of-requires-clause-left c =
    let g = c.args.g.now in
    let k = c.loop-k.k in
    let nodes = c.args.nodes.now in
    let spaces = c.args.spaces.now in
    let states = c.loop-k.states.items in
    let node = c.index-nodes-k.result in
    let s = get_or spaces k 0 in
    let here : k ≡ length states = (let v = c.loop-k.states.ok.0 in let m = c.loop-k.invariant.many in omega arith) in
    let at : slice_get nodes k ≡ Some node = slice_get_read nodes (length nodes) k node refl (omega arith) c.index-nodes-k.is in
    subst (λ (xs : List ℕ). IsShaped c.loop-k.shapes.items (left g s) (child_state xs node.left)) (sym c.deref.ensures.value)
    (child-shaped nodes c.requires.tree g c.loop-k.shelf c.args.rising.now c.loop-k.shapes.items c.loop-k.invariant.shapes spaces states
    c.loop-k.invariant.states node.left (left g s) (c.requires.guide.left_inside s (c.requires.spaces.inside k)) (λ j child.
    let before = child-before nodes c.requires.tree k j node at (inl child) in
    (omega (arith, before), omega (arith, before), c.requires.spaces.left k j node (omega arith) at child)))

pub state_of-requires-clause-right : goal.state_of-requires-clause-right
state_of-requires-clause-right c =
    let g = c.args.g.now in
    let k = c.loop-k.k in
    let nodes = c.args.nodes.now in
    let spaces = c.args.spaces.now in
    let states = c.loop-k.states.items in
    let node = c.index-nodes-k.result in
    let s = get_or spaces k 0 in
    let here : k ≡ length states = (let v = c.loop-k.states.ok.0 in let m = c.loop-k.invariant.many in omega arith) in
    let at : slice_get nodes k ≡ Some node = slice_get_read nodes (length nodes) k node refl (omega arith) c.index-nodes-k.is in
    subst (λ (xs : List ℕ). IsShaped c.loop-k.shapes.items (right g s) (child_state xs node.right)) (sym c.deref.ensures.value)
    (child-shaped nodes c.requires.tree g c.loop-k.shelf c.args.rising.now c.loop-k.shapes.items c.loop-k.invariant.shapes spaces states
    c.loop-k.invariant.states node.right (right g s) (c.requires.guide.right_inside s (c.requires.spaces.inside k)) (λ j child.
    let before = child-before nodes c.requires.tree k j node at (inr child) in
    (omega (arith, before), omega (arith, before), c.requires.spaces.right k j node (omega arith) at child)))

pub loop-k-preserved : goal.loop-k-preserved
loop-k-preserved c =
    let k = c.loop-k.k in
    let nodes = c.args.nodes.now in
    let spaces = c.args.spaces.now in
    let states = c.loop-k.states.items in
    let node = c.index-nodes-k.result in
    let tracks = c.args.rising.now in
    let old = c.loop-k.shelf in
    let new = c.state_of.new.shelf in
    let lists = c.loop-k.shapes.items in
    let changed = c.state_of.new.shapes.items in
    let here : k ≡ length states = (let v = c.loop-k.states.ok.0 in let m = c.loop-k.invariant.many in omega arith) in
    let at : slice_get nodes k ≡ Some node = slice_get_read nodes (length nodes) k node refl (omega arith) c.index-nodes-k.is in
    let state : IsNodeState new tracks (shapes_in changed (get_or spaces (length states) 0)) states node c.in_ok-state.state =
    subst (λ (m : ℕ). IsNodeState new tracks (shapes_in changed (get_or spaces m 0)) states node c.in_ok-state.state) here
    (subst (λ (xs : List ℕ). IsNodeState new tracks (shapes_in changed (get_or spaces k 0)) xs node c.in_ok-state.state) c.deref.ensures.value
    c.in_ok-state.ensures.state) in
    record {
      many = (let n = c.loop-k.invariant.many in let l = c.in_ok-push.ensures.len in omega arith);
      shapes = c.in_ok-state.ensures.shapes;
      states = subst (λ (xs : List ℕ). AreStates new tracks changed nodes spaces xs) (sym c.in_ok-push.ensures.items)
          (AreStates-push nodes c.requires.tree old new c.state_of.ensures.makes.keeps tracks lists changed c.in_ok-state.ensures.kept spaces states
          c.in_ok-state.state node (ap (slice_get nodes) (sym here) ∙ at) c.loop-k.invariant.states state);
      makes = Makes-trans c.args.shelf.now old new c.loop-k.invariant.makes c.state_of.ensures.makes;
    }
