use Rattle.std.proofs.Common.{◌∙◌, List, sym, subst}
use Rattle.ws2s_core.specs.declared.label_tree.TreeNode.{TreeNode}
use Rattle.ws2s_core.specs.LabelTrees.{IsTree}
use Rattle.tree_store.specs.Encoding.{IsTreeOf}
use Rattle.tree_store.proofs.TurningLemmas.{turned-tree}
use Rattle.tree_store.proofs.EncodingLemmas.{tree-stands}
use Rattle.tree_store.proofs.encoding.encode.Goals as goal

pub new-requires : goal.new-requires
new-requires c =
    let (spots, whole, grown) = c.in_ok-nodes.ensures in
    subst (λ (nodes : List TreeNode). IsTree nodes) (sym c.in_ok-turned.ensures)
    (turned-tree c.args.l.now.types c.args.l.now.vars c.args.store.now c.in_ok-rows.rows spots c.in_ok-nodes.nodes grown whole)

pub returns : goal.returns
returns c =
    let (spots, whole, grown) = c.in_ok-nodes.ensures in
    subst (λ (nodes : List TreeNode). IsTreeOf c.args.l.now.types c.args.l.now.vars c.args.store.now nodes) (sym (c.new.ensures ∙ c.in_ok-turned.ensures))
    (tree-stands c.args.l.now.types c.args.l.now.vars c.args.store.now c.in_ok-rows.rows spots c.in_ok-nodes.nodes c.in_ok-rows.ensures grown whole)
