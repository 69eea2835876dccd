-- What is read off a tree at the places of its nodes, and what it says of positions.
use Rattle.std.specs.Prelude.{◌≡◌, ℕ, Bool, false, List, ◌++◌, slice_get, Option, Some, None}
use Rattle.std.specs.Option.{option_and_then, option_map_or}
use Rattle.gta_theory.specs.Assignments.{Position, is_same_position}
use Rattle.ws2s_core.specs.declared.track.Track.{Track}
use Rattle.ws2s_core.specs.declared.label_tree.TreeNode.{TreeNode}
use Rattle.ws2s_core.specs.LabelTrees.{IsTree, assignment_of}
use Rattle.ws2s_theory.specs.Trees.{StandsAt, label_of}
use Rattle.store_core.specs.declared.ids.CellId.{CellId}
use Rattle.store_core.specs.declared.ids.TypeId.{TypeId}
use Rattle.store_core.specs.Tables.{TypeEntry}
use Rattle.ws2s_forms.specs.Places.{ones}
use Rattle.tree_encode.specs.declared.counting.Counted.TheVariants.{Children}
use Rattle.tree_encode.specs.Counting.{rank}
use Rattle.tree_store.specs.Decoded.{Standing, AreCells, first_where}

-- the children of the node at a place
abbrev pub left_of_node : List TreeNode → Option ℕ → Option ℕ
left_of_node nodes place = option_and_then (λ k. option_and_then (λ (node : TreeNode). node.left) (slice_get nodes k)) place

abbrev pub right_of_node : List TreeNode → Option ℕ → Option ℕ
right_of_node nodes place = option_and_then (λ k. option_and_then (λ (node : TreeNode). node.right) (slice_get nodes k)) place

-- the node at a place has the track, where both are there
abbrev pub has_track : List TreeNode → Option ℕ → Option Track → Bool
has_track nodes place track =
    option_map_or (λ k. option_map_or (λ (t : Track). option_map_or (λ (node : TreeNode). label_of node.tracks t.0) (slice_get nodes k) false) track false)
    place false

-- the number at a place
abbrev pub number_in : List (Option CellId) → Option ℕ → Option CellId
number_in numbers place = option_and_then (λ k. option_and_then (λ c. c) (slice_get numbers k)) place

-- the node stands at the position; where there is none, no track has a position there or below
abbrev pub IsNodeAt : List TreeNode → Position → Option ℕ → Type 0
IsNodeAt nodes p None = (t : ℕ) (q : Position) → assignment_of nodes t (p ++ q) ≡ false
IsNodeAt nodes p (Some k) = StandsAt nodes k p

-- the node stands where the children of the type's data fields from this number on begin, below a position
abbrev pub IsBehind : List TypeEntry → List TreeNode → Position → TypeId → ℕ → Option ℕ → Type 0
IsBehind types nodes p ty index place = IsNodeAt nodes (p ++ ones (rank Children types (record { ty = ty; index = index }))) place

-- at the place of each node is the number of the cell that stands at its position, where one does
abbrev pub AreNumbered : List TreeNode → List Standing → List (Option CellId) → Type 0
AreNumbered nodes cells numbers =
    (k : ℕ) (p : Position) → StandsAt nodes k p → slice_get numbers k ≡ Some (first_where (is_same_position p) 1 cells)

-- the nodes are a tree, the cells are those on its tracks, and these are their numbers by the places of nodes
pub record AreRead (types : List TypeEntry) (nodes : List TreeNode) (cells : List Standing) (numbers : List (Option CellId)) : Type 0 where
  pub tree : IsTree nodes
  pub cells_are : AreCells types (assignment_of nodes) cells
  pub numbers_are : AreNumbered nodes cells numbers
