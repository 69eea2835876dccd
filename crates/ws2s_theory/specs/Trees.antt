-- Labelled trees put together under a root, where nodes stand, and the values of an automaton at them.
use Rattle.std.specs.Prelude.{◌≡◌, ℕ, zero, suc, ◌+◌, true, false, ◌==◌, List, [], ◌∷◌, ◌++◌, length, map, slice_get, unwrap_or, option_map, Option, Some, None}
use Rattle.std.specs.List.{list_any}
use Rattle.labels.specs.Labels.{Label}
use Rattle.gta_theory.specs.Assignments.{Position, Assignment, empty_assignment}
use Rattle.gta_theory.specs.Guides.{Spaces}
use Rattle.gta_theory.specs.Automata.{Automaton, value}
use Rattle.gta_theory.specs.Listed.{meanings}
use Rattle.ws2s_core.specs.declared.track.Track.{Track}
use Rattle.ws2s_core.specs.declared.label_tree.TreeNode.{TreeNode}
use Rattle.ws2s_core.specs.LabelTrees.{child_assignment, node_assignment}

-- what the node at a place stands for
abbrev pub assignment_at : List TreeNode → ℕ → Assignment
assignment_at nodes k = unwrap_or (slice_get (meanings node_assignment nodes) k) empty_assignment

-- what a child stands for: without a child nothing
abbrev pub child_at : List TreeNode → Option ℕ → Assignment
child_at nodes = child_assignment (meanings node_assignment nodes)

-- the label that has these tracks
abbrev pub label_of : List Track → Label
label_of tracks t = list_any (λ track. track.0 == t) tracks

-- the place of the last of so many nodes, the first at an offset; there is none without nodes
abbrev pub last_place : ℕ → ℕ → Option ℕ
last_place offset zero = None
last_place offset (suc n) = Some (offset + n)

-- a node whose children stand so many places later
abbrev pub moved_on : ℕ → TreeNode → TreeNode
moved_on offset node = record {
  tracks = node.tracks;
  left = option_map (λ k. offset + k) node.left;
  right = option_map (λ k. offset + k) node.right;
}

-- a root over two trees of so many nodes, which stand before it one after the other
abbrev pub root_over : List Track → ℕ → ℕ → TreeNode
root_over tracks m n = record { tracks = tracks; left = last_place 0 m; right = last_place m n }

-- two trees under a root with these tracks
abbrev pub under_root : List Track → List TreeNode → List TreeNode → List TreeNode
under_root tracks l r =
    (l ++ map (moved_on (length l)) r) ++ root_over tracks (length l) (length r) ∷ []

-- the value of the automaton at a node in a space, to a depth that covers what it stands for
abbrev pub value_at : {Q : Type 0} → Spaces → Automaton Q → ℕ → List TreeNode → ℕ → Q
value_at g A s nodes k = value g A s (length nodes) (assignment_at nodes k)

-- the value at a child: without a child the initial state
abbrev pub child_value : {Q : Type 0} → Spaces → Automaton Q → ℕ → List TreeNode → Option ℕ → Q
child_value g A s nodes None = A.initial s
child_value g A s nodes (Some k) = value_at g A s nodes k

-- the node stands at the position: the last one at the root, and children below their parent
pub data StandsAt (nodes : List TreeNode) : ℕ → Position → Type 0 where
  at_root : (k : ℕ) → suc k ≡ length nodes → StandsAt nodes k []
  at_left : (k j : ℕ) (node : TreeNode) (p : Position) → StandsAt nodes k p → slice_get nodes k ≡ Some node →
      node.left ≡ Some j → StandsAt nodes j (p ++ false ∷ [])
  at_right : (k j : ℕ) (node : TreeNode) (p : Position) → StandsAt nodes k p → slice_get nodes k ≡ Some node →
      node.right ≡ Some j → StandsAt nodes j (p ++ true ∷ [])
