-- What a tree's nodes have in a list while acceptance is decided.
use Rattle.std.specs.Prelude.{◌≡◌, ℕ, suc, ◌<◌, ◌≤◌, List, length, Some, Option, None, slice_get, slice_index, slice_set}
use Rattle.gta_theory.specs.Guides.{Spaces, IsSpace, left, right}
use Rattle.gta_theory.specs.Automata.{Automaton}
use Rattle.ws2s_core.specs.declared.label_tree.TreeNode.{TreeNode}
use Rattle.gta_core.specs.Auto.{AutoView, initial_of}
use Rattle.ws2s_theory.specs.Trees.{value_at}

-- the list with the space at the child's place, if there is a child
abbrev pub with_space : List ℕ → Option ℕ → ℕ → List ℕ
with_space spaces None space = spaces
with_space spaces (Some j) space = slice_set spaces j space

-- each node has a space, the root's is 0, and from a place on a node's children have its child spaces
pub record AreSpacesFrom (g : Spaces) (nodes : List TreeNode) (from : ℕ) (spaces : List ℕ) : Type 0 where
  pub many : length spaces ≡ length nodes
  pub inside : (k : ℕ) → IsSpace g (slice_index spaces k)
  pub root : (k : ℕ) → suc k ≡ length nodes → slice_index spaces k ≡ 0
  pub left : (k j : ℕ) (node : TreeNode) → from ≤ k → slice_get nodes k ≡ Some node → node.left ≡ Some j →
      slice_index spaces j ≡ left g (slice_index spaces k)
  pub right : (k j : ℕ) (node : TreeNode) → from ≤ k → slice_get nodes k ≡ Some node → node.right ≡ Some j →
      slice_index spaces j ≡ right g (slice_index spaces k)

-- the first nodes have their values in their spaces
pub record AreValues (g : Spaces) (A : Automaton ℕ) (nodes : List TreeNode) (spaces values : List ℕ) : Type 0 where
  pub each : (k : ℕ) → k < length values → slice_index values k ≡ value_at g A (slice_index spaces k) nodes k

-- the state of a child by the list of values: without a child the initial one
abbrev pub state_of_child : AutoView → List ℕ → Option ℕ → ℕ → ℕ
state_of_child a values None space = initial_of a space
state_of_child a values (Some j) space = slice_index values j
