-- The sides of one more node.
use Rattle.std.proofs.Common.{◌≡◌, suc, ◌-◌, ◌<◌, List, true, false, length, sym, ◌∙◌, ap, subst, arith}
use Rattle.std.proofs.lemmas.List.{get_or_read}
use Rattle.bdd_list.specs.declared.listing.ListedNode.{ListedNode}
use Rattle.bdd_list.specs.Listing.{node_at}
use Rattle.gta_classes.specs.Chosen.{is_marked}
use Rattle.gta_reach.specs.Reached.{with_node, with_state, AreSidesTouched}
use Rattle.gta_reach.proofs.SweepLemmas.{Grown-trans, Grown-step, Sweeps-touch, given-low, given-high, AreSidesTouched-node}
use Rattle.gta_reach.proofs.sweep.touch_sides.Goals as goal

pub loop-index-preserved-then-index : goal.loop-index-preserved-then-index
loop-index-preserved-then-index c =
    let space = c.args.space.now in
    let k = c.loop-index.index - 1 in
    let t = c.loop-index-test.true in
    let here : c.loop-index.index ≡ suc k = omega arith in
    let inv = c.loop-index.invariant in
    let nodes = c.loop-index.nodes.items in
    let states = c.loop-index.states in
    let low_nodes = c.touch.new.nodes.items in
    let low_states = c.touch.new.states in
    let high_nodes = c.touch-then-index.new.nodes.items in
    let high_states = c.touch-then-index.new.states in
    let n = node_at space.listing.nodes k in
    let in_list : k < length nodes = (let g = inv.grown.nodes_many in let m = c.requires.many in let v = c.loop-index.nodes.ok.0 in let v0 =
    c.args.nodes.now.ok.0 in
    let a = c.loop-index.auto.index in let l = c.len-index.ensures in omega arith) in
    let inside : k < length space.listing.nodes = (let g = inv.grown.nodes_many in let m = c.requires.many in let v0 = c.args.nodes.now.ok.0 in omega arith) in
    let marked : is_marked nodes k ≡ true = sym (get_or_read nodes k c.index.result.now in_list c.index.ensures false) ∙ c.if-index.true in
    let same : c.as_slice.result.now ≡ space.listing.nodes = c.as_slice.ensures in
    let low_nodes_are : low_nodes ≡ with_node nodes n.low = c.touch.ensures.nodes ∙ ap (λ (ns : List ListedNode). with_node nodes (node_at ns k).low) same in
    let low_states_are : low_states ≡ with_state states n.low = c.touch.ensures.states ∙ ap (λ (ns : List ListedNode). with_state states (node_at ns k).low)
    same in
    let high_nodes_are : high_nodes ≡ with_node low_nodes n.high = c.touch-then-index.ensures.nodes ∙ ap
    (λ (ns : List ListedNode). with_node low_nodes (node_at ns k).high) same in
    let high_states_are : high_states ≡ with_state low_states n.high = c.touch-then-index.ensures.states ∙ ap
    (λ (ns : List ListedNode). with_state low_states (node_at ns k).high) same in
    record {
      sweeps = λ lefts rights before start.
          let sweeps = inv.sweeps lefts rights before start in
          let given = sweeps.nodes_sound k marked in
          Sweeps-touch space lefts rights before low_nodes low_states high_nodes high_states c.touch.new.is_more c.touch-then-index.new.is_more n.high
          high_nodes_are high_states_are c.touch-then-index.ensures.unchanged
          (given-high space lefts rights before c.requires.ordered k inside given)
          (Sweeps-touch space lefts rights before nodes states low_nodes low_states c.loop-index.is_more c.touch.new.is_more n.low
          low_nodes_are low_states_are c.touch.ensures.unchanged
          (given-low space lefts rights before c.requires.ordered k inside given) sweeps);
      grown = Grown-trans _ _ low_nodes low_states high_nodes high_states
          (Grown-trans _ _ nodes states low_nodes low_states inv.grown (Grown-step nodes states low_nodes low_states n.low low_nodes_are low_states_are))
          (Grown-step low_nodes low_states high_nodes high_states n.high high_nodes_are high_states_are);
      sides = AreSidesTouched-node space c.requires.ordered k inside nodes states low_nodes low_states high_nodes high_states
          (subst (AreSidesTouched space nodes states) here inv.sides) low_nodes_are low_states_are high_nodes_are high_states_are;
      fewer = let f = inv.fewer in let g = c.touch.ensures.fewer in let h = c.touch-then-index.ensures.fewer in omega arith;
    }
