use Rattle.std.proofs.Common.{◌<◌, List, length, get_or, set, ◌∙◌, ap, arith}
use Rattle.std.proofs.lemmas.List.Edits.{map_over_more}
use Rattle.bdd_nodes.specs.declared.node_ref.NodeRef.{NodeRef}
use Rattle.bdd_nodes.specs.Collecting.{linked}
use Rattle.bdd_nodes.proofs.ElementsLemmas.{get_or-self}
use Rattle.bdd_nodes.proofs.collecting.move_list.Goals as goal

pub loop-index-preserved : goal.loop-index-preserved
loop-index-preserved c =
    let xs = c.args.roots.now in
    let ys = c.loop-index.roots in
    let i = c.loop-index.index in
    let within : i < length xs = (let e = c.len-index-end.ensures in let t = c.loop-index-test.true in omega arith) in
    let d : NodeRef = record { word = 0 } in
    c.set.ensures ∙ ap (set ys i) (c.linked.ensures ∙ ap (λ (zs : List NodeRef). linked c.args.links.now (get_or zs i d)) c.as_slice.ensures)
    ∙ map_over_more (linked c.args.links.now) xs ys i (get_or ys i d) within c.loop-index.invariant (get_or-self ys i d)
