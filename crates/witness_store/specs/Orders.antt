-- The nodes of a tree in preorder. (Textbook.)
use Rattle.std.specs.Prelude.{ℕ, zero, suc, List, [], ◌∷◌, ◌++◌, length, slice_get, Option, option_to_list}
use Rattle.std.specs.Option.{option_map_or}
use Rattle.ws2s_core.specs.declared.label_tree.TreeNode.{TreeNode}

-- the places of a node and of those below it, down to so many levels: the node before those below its left, and these before
-- those below its right
abbrev pub places_below : List TreeNode → ℕ → ℕ → List ℕ
places_below nodes zero k = []
places_below nodes (suc n) k =
    k ∷ option_map_or (λ node. option_map_or (places_below nodes n) node.left [] ++ option_map_or (places_below nodes n) node.right []) (slice_get nodes k) []

-- the places of all nodes
abbrev pub preorder_of : List TreeNode → List ℕ
preorder_of [] = []
preorder_of (node ∷ nodes) = places_below (node ∷ nodes) (suc (length nodes)) (length nodes)

-- the children of a node, the left one last, and none where there is no node
abbrev pub children_last_first : Option TreeNode → List ℕ
children_last_first o = option_map_or (λ node. option_to_list node.right ++ option_to_list node.left) o []

-- the place of the root, where there is one
abbrev pub roots_of : List TreeNode → List ℕ
roots_of [] = []
roots_of (node ∷ nodes) = length nodes ∷ []
