use Rattle.std.proofs.Common.{List, sym, subst, arith}
use Rattle.std.proofs.lemmas.List.{take_more}
use Rattle.bdd_nodes.specs.declared.node_ref.NodeRef.{NodeRef}
use Rattle.bdd_nodes.specs.Collecting.{MarksList}
use Rattle.bdd_nodes.proofs.MarksLemmas.{MarksList-push}
use Rattle.bdd_nodes.proofs.collecting.mark_list.Goals as goal

pub loop-root-preserved : goal.loop-root-preserved
loop-root-preserved c =
    let zero_ref : NodeRef = record { word = 0 } in
    subst (λ (rs : List NodeRef). MarksList rs c.args.marks.now c.mark.new.marks)
    (sym (take_more c.args.roots.now c.loop-root.root-index zero_ref c.loop-root-test.true))
    (subst (MarksList _ _) (sym c.mark.ensures) (MarksList-push _ _ _ _ c.loop-root.invariant
    (let r = c.requires c.loop-root.root-index zero_ref c.loop-root-test.true in omega arith)))
