use Rattle.std.proofs.Common.{◌≡◌, ℕ, zero, suc, ◌+◌, ◌<◌, List, [], ◌∷◌, length, Option, Some, None, IfSome, arith, sym, ap}
use Rattle.std.specs.Prelude.{slice_get, slice_index_or}
use Rattle.ws2s_core.specs.declared.label_tree.TreeNode.{TreeNode}
use Rattle.gta_gallery.proofs.trees.joined.Goals as goal

-- what is read within the list is there
there : (nodes : List TreeNode) (k : ℕ) (node : TreeNode) → k < length nodes → node ≡ slice_index_or nodes k node → slice_get nodes k ≡ Some node
there [] k node inside is = absurd (omega arith)
there (first ∷ nodes) zero node inside is = ap (λ (one : TreeNode). Some one) (sym is)
there (first ∷ nodes) (suc k) node inside is = there nodes k node (omega arith) is

-- a place below a number that is small beside another one is small beside that too
below : (child : Option ℕ) (k offset : ℕ) → k + offset < 4294967296 → IfSome child (λ place. place < k) →
    IfSome child (λ place. place + offset < 4294967296)
below None k offset few before = before
below (Some place) k offset few before = omega (arith, few, before)

pub add_moved-requires-clause-left : goal.add_moved-requires-clause-left
add_moved-requires-clause-left c =
    below (c.node-item.result).left c.loop-node.node-index c.len-offset.result
    (let few = c.requires.few in let many = c.len-offset.ensures in let inside = c.loop-node-test.true in omega arith)
    (c.requires.tree.left_before c.loop-node.node-index c.node-item.result
    (there c.args.right.now c.loop-node.node-index c.node-item.result (let inside = c.loop-node-test.true in omega arith) c.node-item.is))

pub add_moved-requires-clause-right : goal.add_moved-requires-clause-right
add_moved-requires-clause-right c =
    below (c.node-item.result).right c.loop-node.node-index c.len-offset.result
    (let few = c.requires.few in let many = c.len-offset.ensures in let inside = c.loop-node-test.true in omega arith)
    (c.requires.tree.right_before c.loop-node.node-index c.node-item.result
    (there c.args.right.now c.loop-node.node-index c.node-item.result (let inside = c.loop-node-test.true in omega arith) c.node-item.is))
