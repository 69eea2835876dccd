-- Where the nodes of a labelled tree hang, and the texts of their positions.
use Rattle.std.specs.Prelude.{◌≡◌, ℕ, Bool, if◌then◌else◌, nat_lt, List, length, slice_get, slice_set, Option, Some, None}
use Rattle.gta_theory.specs.Assignments.{Position}
use Rattle.ws2s_core.specs.declared.label_tree.TreeNode.{TreeNode}
use Rattle.ws2s_theory.specs.Trees.{StandsAt}
use Rattle.ws2s_example.specs.declared.hanging.Hanging.{Hanging}
use Rattle.ws2s_example.specs.Examples.{position_text}

-- the child that a letter leads to
abbrev pub child_by : Bool → TreeNode → Option ℕ
child_by letter node = if letter then node.right else node.left

-- the node with that number has the child by that letter
pub record HasChild (nodes : List TreeNode) (parent : ℕ) (letter : Bool) (child : ℕ) : Type 0 where
  pub node : TreeNode
  pub there : slice_get nodes parent ≡ Some node
  pub is_child : child_by letter node ≡ Some child

-- where a node hangs among these nodes; or none of them has it as a child
abbrev pub IsHanging : List TreeNode → ℕ → Option Hanging → Type 0
IsHanging nodes child None = (parent : ℕ) (letter : Bool) → HasChild nodes parent letter child → ⊥
IsHanging nodes child (Some hanging) = HasChild nodes hanging.parent hanging.letter child

-- a child's place noted, where it is there
abbrev pub hung : Option ℕ → Hanging → List (Option Hanging) → List (Option Hanging)
hung None hanging hangings = hangings
hung (Some child) hanging hangings = if nat_lt child (length hangings) then slice_set hangings child (Some hanging) else hangings

-- for each node, where it hangs
pub record AreHangings (nodes : List TreeNode) (hangings : List (Option Hanging)) : Type 0 where
  pub long : length hangings ≡ length nodes
  pub each : (child : ℕ) (hanging : Option Hanging) → slice_get hangings child ≡ Some hanging → IsHanging nodes child hanging

-- the text is that of the node's position
pub record IsPlaceText (nodes : List TreeNode) (node : ℕ) (text : List ℕ) : Type 0 where
  pub position : Position
  pub stands : StandsAt nodes node position
  pub is_text : text ≡ position_text position
