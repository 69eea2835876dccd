-- The shapes of a tree's subtrees: each node has a state in the space where it stands.
use Rattle.std.specs.Prelude.{◌≡◌, ℕ, ◌<◌, ◌↔◌, List, length, Contains, slice_get, slice_index, Option, Some, None}
use Rattle.std.specs.List.Sorted.{IsStrictlyIncreasing}
use Rattle.bdd_nodes.specs.Shelf.{Contents}
use Rattle.gta_theory.specs.Guides.{Spaces, IsGuide}
use Rattle.ws2s_core.specs.declared.track.Track.{Track}
use Rattle.ws2s_core.specs.declared.label_tree.TreeNode.{TreeNode}
use Rattle.ws2s_core.specs.LabelTrees.{IsTree}
use Rattle.ws2s_theory.specs.Trees.{label_of, last_place}
use Rattle.gta_core.specs.Accepting.{AreSpacesFrom}
use Rattle.gta_pinned.specs.declared.shapes.Shape.{Shape}
use Rattle.gta_pinned.specs.Shapes.{Tells, IsStateOf, AreShapes, shapes_in}

-- the state of a child; without one that of the empty tree
abbrev pub child_state : List ℕ → Option ℕ → ℕ
child_state states None = 1
child_state states (Some j) = slice_index states j

-- the state is that of the shape that has the states of the node's children, and a test of its label
pub record IsNodeState (shelf : Contents) (tracks : List ℕ) (shapes : List Shape) (states : List ℕ) (node : TreeNode) (state : ℕ) : Type 0 where
  pub shape : Shape
  pub is : IsStateOf shapes shape state
  pub left : shape.left ≡ child_state states node.left
  pub right : shape.right ≡ child_state states node.right
  pub tells : Tells shelf tracks (label_of node.tracks) shape.test

-- the first nodes have their states in their spaces
pub record AreStates (shelf : Contents) (tracks : List ℕ) (lists : List (List Shape)) (nodes : List TreeNode) (spaces states : List ℕ) :
    Type 0 where
  pub each : (k : ℕ) (node : TreeNode) → k < length states → slice_get nodes k ≡ Some node →
      IsNodeState shelf tracks (shapes_in lists (slice_index spaces k)) states node (slice_index states k)

-- the numbers of the tracks, each once, in rising order
pub record AreRising (tracks : List Track) (rising : List ℕ) : Type 0 where
  pub rises : IsStrictlyIncreasing rising
  pub same : (t : ℕ) → Contains rising t ↔ ((track : Track) × Contains tracks track × (track.0 ≡ t))

-- over a guide, the shapes are those of the tree's subtrees on the tracks, and the state is that of the whole tree
pub record AreOfTree (g : Spaces) (shelf : Contents) (tracks : List Track) (nodes : List TreeNode) (lists : List (List Shape)) (root : ℕ) :
    Type 0 where
  pub guide : IsGuide g
  pub tree : IsTree nodes
  pub rising : List ℕ
  pub are_rising : AreRising tracks rising
  pub shapes : AreShapes g shelf rising lists
  pub spaces : List ℕ
  pub are_spaces : AreSpacesFrom g nodes 0 spaces
  pub states : List ℕ
  pub many : length states ≡ length nodes
  pub are_states : AreStates shelf rising lists nodes spaces states
  pub is_root : root ≡ child_state states (last_place 0 (length nodes))
