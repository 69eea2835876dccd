-- The sides of one more node.
use Rattle.std.proofs.Common.{◌≡◌, suc, ◌-◌, ◌<◌, List, [], true, false, length, sym, ◌∙◌, ap, subst, arith}
use Rattle.std.proofs.lemmas.List.{get_or_read}
use Rattle.bdd_list.specs.declared.listing.ListedNode.{ListedNode}
use Rattle.bdd_list.specs.Listing.{node_at}
use Rattle.gta_classes.specs.Chosen.{is_marked}
use Rattle.gta_reach.specs.Reached.{with_node, AreSidesTouched}
use Rattle.gta_minimise.proofs.MarksLemmas.{sides-node, many-node, kept-node, under-node}
use Rattle.gta_minimise.proofs.marks.mark_sides.Goals as goal

pub loop-index-preserved-then-index : goal.loop-index-preserved-then-index
loop-index-preserved-then-index c =
    let space = c.args.space.now in
    let ordered = c.requires.ordered in
    let k = c.loop-index.index - 1 in
    let t = c.loop-index-test.true in
    let here : c.loop-index.index ≡ suc k = omega arith in
    let inv = c.loop-index.invariant in
    let marks = c.loop-index.marks.items in
    let low = c.touch.new.marks.items in
    let high = c.touch-then-index.new.marks.items in
    let n = node_at space.listing.nodes k in
    let in_list : k < length marks = (let g = inv.many in let m = c.requires.many in let v = c.loop-index.marks.ok.0 in let v0 = c.args.marks.now.ok.0 in
    let a = c.loop-index.auto.index in let l = c.len-index.ensures in omega arith) in
    let inside : k < length space.listing.nodes = (let g = inv.many in let m = c.requires.many in let v0 = c.args.marks.now.ok.0 in omega arith) in
    let marked : is_marked marks k ≡ true = sym (get_or_read marks k c.index.result.now in_list c.index.ensures false) ∙ c.if-index.true in
    let same : c.as_slice.result.now ≡ space.listing.nodes = c.as_slice.ensures in
    let low_is : low ≡ with_node marks n.low = c.touch.ensures ∙ ap (λ (ns : List ListedNode). with_node marks (node_at ns k).low) same in
    let high_is : high ≡ with_node low n.high = c.touch-then-index.ensures ∙ ap (λ (ns : List ListedNode). with_node low (node_at ns k).high) same in
    record {
      many = many-node space ordered k inside marks low high low_is high_is ∙ inv.many;
      kept = λ i marked_first. kept-node space ordered k inside marks low high low_is high_is i (inv.kept i marked_first);
      under = λ roots start. under-node space ordered k inside marks low high low_is high_is roots marked (inv.under roots start);
      sides = sides-node space ordered k inside marks low high low_is high_is (subst (AreSidesTouched space marks []) here inv.sides);
    }

pub returns-clause-sides : goal.returns-clause-sides
returns-clause-sides c =
    let sides = c.loop-index.invariant.sides in
    record {
      low = λ i marked. sides.low i (let t = c.loop-index-test.false in omega arith) marked;
      high = λ i marked. sides.high i (let t = c.loop-index-test.false in omega arith) marked;
    }
