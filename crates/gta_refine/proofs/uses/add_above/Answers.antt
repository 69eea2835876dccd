-- One number more at a leaf or a node.
use Rattle.std.proofs.Common.{sym, subst}
use Rattle.std.specs.Prelude.{IfOk}
use Rattle.std.proofs.lemmas.Result.{IfOk-weaker}
use Rattle.bdd_list.specs.declared.listing.Listed.{Listed}
use Rattle.gta_refine.specs.Uses.{IsAddedAbove}
use Rattle.gta_refine.proofs.UsesLemmas.{IsAddedAbove-leaf, IsAddedAbove-node}
use Rattle.gta_refine.proofs.uses.add_above.Goals as goal

pub returns-in-Leaf : goal.returns-in-Leaf
returns-in-Leaf c =
    let leaves = c.args.leaves.now.items in
    let nodes = c.args.nodes.now.items in
    let new = c.add_at.new.lists.items in
    subst (λ (l : Listed). IfOk c.add_at.result (λ done. IsAddedAbove leaves nodes l c.args.number new nodes)) (sym c.in-Leaf.is)
    (IfOk-weaker c.add_at.result _ _
    (λ done added. IsAddedAbove-leaf leaves nodes c.in-Leaf.state c.args.number new added) c.add_at.ensures)

pub returns-in-Inner : goal.returns-in-Inner
returns-in-Inner c =
    let leaves = c.args.leaves.now.items in
    let nodes = c.args.nodes.now.items in
    let new = c.add_at-in-Inner.new.lists.items in
    subst (λ (l : Listed). IfOk c.add_at-in-Inner.result (λ done. IsAddedAbove leaves nodes l c.args.number leaves new)) (sym c.in-Inner.is)
    (IfOk-weaker c.add_at-in-Inner.result _ _
    (λ done added. IsAddedAbove-node leaves nodes c.in-Inner.index c.args.number new added) c.add_at-in-Inner.ensures)
