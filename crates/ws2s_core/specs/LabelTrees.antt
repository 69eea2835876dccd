-- Labelled trees as lists of nodes, and the assignment that such a list stands for.
use Rattle.std.specs.Prelude.{◌≡◌, ℕ, ◌+◌, ◌-◌, ◌<◌, true, false, ◌==◌, List, [], ◌∷◌, ◌++◌, length, slice_get, unwrap_or, option_to_list, flat_map}
use Rattle.std.specs.Prelude.{count_by, Option, Some, None, IfSome}
use Rattle.std.specs.List.{list_any}
use Rattle.gta_theory.specs.Assignments.{Assignment, empty_assignment}
use Rattle.gta_theory.specs.Listed.{meanings}
use Rattle.ws2s_core.specs.declared.label_tree.TreeNode.{TreeNode}

-- what a child stands for, by what the nodes before it stand for
abbrev pub child_assignment : List Assignment → Option ℕ → Assignment
child_assignment earlier None = empty_assignment
child_assignment earlier (Some k) = unwrap_or (slice_get earlier k) empty_assignment

-- what a node stands for: its tracks hold the empty word, and its children stand for the halves
abbrev pub node_assignment : List Assignment → TreeNode → Assignment
node_assignment earlier node t [] = list_any (λ track. track.0 == t) node.tracks
node_assignment earlier node t (false ∷ p) = child_assignment earlier node.left t p
node_assignment earlier node t (true ∷ p) = child_assignment earlier node.right t p

-- what a tree stands for: the assignment of its last node, the root; without nodes the empty one
abbrev pub assignment_of : List TreeNode → Assignment
assignment_of nodes = unwrap_or (slice_get (meanings node_assignment nodes) (length nodes - 1)) empty_assignment

-- the places of a node's children
abbrev pub children_of : TreeNode → List ℕ
children_of node = option_to_list node.left ++ option_to_list node.right

-- how often a place is named as a child
abbrev pub times_named : List TreeNode → ℕ → ℕ
times_named nodes k = count_by (λ child. child == k) (flat_map children_of nodes)

-- the nodes make a tree: there are few enough for a number each, every child stands before its parent, and every
-- node but the last is named exactly once as a child
pub record IsTree (nodes : List TreeNode) : Type 0 where
  pub few : length nodes < 4294967295
  pub left_before : (k : ℕ) (node : TreeNode) → slice_get nodes k ≡ Some node → IfSome node.left (λ child. child < k)
  pub right_before : (k : ℕ) (node : TreeNode) → slice_get nodes k ≡ Some node → IfSome node.right (λ child. child < k)
  pub once : (k : ℕ) → k + 1 < length nodes → times_named nodes k ≡ 1
