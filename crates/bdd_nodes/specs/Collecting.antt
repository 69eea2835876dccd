-- How a collection marks what it keeps, and where it moves that.
use Rattle.std.specs.Prelude.{◌≡◌, ℕ, zero, suc, ◌+◌, ◌-◌, ◌^◌, ◌<◌, ◌≤◌, List, length, map, Contains, slice_index, slice_set}
use Rattle.std.specs.List.{flat_map}
use Rattle.bdd_nodes.specs.declared.node_ref.NodeRef.{NodeRef}
use Rattle.bdd_nodes.specs.declared.node_ref.Named.{Named}
use Rattle.bdd_nodes.specs.declared.node_ref.Named.TheVariants.{Leaf, Inner}
use Rattle.bdd_nodes.specs.declared.node.Node.{Node}
use Rattle.bdd_nodes.specs.declared.roots.RootTable.{RootTable}
use Rattle.bdd_nodes.specs.Nodes.{node_of, node_at}
use Rattle.bdd_nodes.specs.Changes.{Reaches}

-- the reference of the inner node at an index
abbrev pub reference_to : ℕ → NodeRef
reference_to index = record { word = index + 2 ^ 31 }

-- the roots of all tables, one table after the other
abbrev pub all_roots : List RootTable → List NodeRef
all_roots tables = flat_map (λ table. table.roots) tables

-- the marks with one more, where an inner node is named
abbrev pub with_mark : List ℕ → Named → List ℕ
with_mark marks (Leaf state) = marks
with_mark marks (Inner index) = slice_set marks index 1

-- a leaf needs no mark, and an inner node has one
abbrev pub IsMarked : List ℕ → Named → Type 0
IsMarked marks (Leaf state) = Unit {0}
IsMarked marks (Inner index) = slice_index marks index ≡ 1

-- one of the references names the index
pub record SomeNames (roots : List NodeRef) (index : ℕ) : Type 0 where
  pub root : NodeRef
  pub there : Contains roots root
  pub names : node_of root ≡ Inner index

-- the marks grow by those of the references, and by no others
pub record MarksList (roots : List NodeRef) (old new : List ℕ) : Type 0 where
  pub len : length new ≡ length old
  pub bits : (i : ℕ) → slice_index old i ≤ 1 → slice_index new i ≤ 1
  pub kept : (i : ℕ) → slice_index old i ≡ 1 → slice_index new i ≡ 1
  pub marked : (r : NodeRef) → Contains roots r → IsMarked new (node_of r)
  pub sound : (i : ℕ) → slice_index new i ≡ 1 → (slice_index old i ≡ 1 → ⊥) → SomeNames roots i

-- a marked index from which the node at another one is reached
pub record FromMarked (nodes : List Node) (marks : List ℕ) (index : ℕ) : Type 0 where
  pub start : ℕ
  pub marked : slice_index marks start ≡ 1
  pub reached : Reaches nodes (reference_to start) (reference_to index)

-- the marks grow by what is reached from marked nodes, and by nothing else; from an index on, the sides of marked nodes
-- are marked
pub record MarksSides (nodes : List Node) (old new : List ℕ) (from : ℕ) : Type 0 where
  pub len : length new ≡ length old
  pub bits : (i : ℕ) → slice_index old i ≤ 1 → slice_index new i ≤ 1
  pub kept : (i : ℕ) → slice_index old i ≡ 1 → slice_index new i ≡ 1
  pub low : (i : ℕ) → from ≤ i → i < length nodes → slice_index new i ≡ 1 → IsMarked new (node_of (node_at nodes i).low)
  pub high : (i : ℕ) → from ≤ i → i < length nodes → slice_index new i ≡ 1 → IsMarked new (node_of (node_at nodes i).high)
  pub sound : (i : ℕ) → slice_index new i ≡ 1 → FromMarked nodes old i

-- how many indices below are marked: the index that a marked node moves to
abbrev pub marked_below : List ℕ → ℕ → ℕ
marked_below marks zero = 0
marked_below marks (suc index) = marked_below marks index + slice_index marks index

-- what becomes of a reference to a leaf or a marked node
abbrev pub moved_named : List ℕ → NodeRef → Named → NodeRef
moved_named marks r (Leaf state) = r
moved_named marks r (Inner index) = reference_to (marked_below marks index)

abbrev pub moved : List ℕ → NodeRef → NodeRef
moved marks r = moved_named marks r (node_of r)

-- a node with its sides moved
abbrev pub moved_node : List ℕ → Node → Node
moved_node marks n = record { track = n.track; low = moved marks n.low; high = moved marks n.high }

-- a table with its roots moved
abbrev pub moved_table : List ℕ → RootTable → RootTable
moved_table marks table = record { id = table.id; roots = map (moved marks) table.roots }

-- each marked index has the link to where its node moves
pub record AreLinks (marks links : List ℕ) (below : ℕ) : Type 0 where
  pub at : (i : ℕ) → i < below → slice_index marks i ≡ 1 → slice_index links i ≡ marked_below marks i + 1

-- the marked nodes below an index have moved, and the others stand where they stood
pub record MovesBelow (nodes : List Node) (marks : List ℕ) (now : List Node) (links : List ℕ) (below : ℕ) : Type 0 where
  pub len : length now ≡ length nodes
  pub links_len : length links ≡ length marks
  pub ahead : (i : ℕ) → below ≤ i → node_at now i ≡ node_at nodes i
  pub marks_ahead : (i : ℕ) → below ≤ i → slice_index links i ≡ slice_index marks i
  pub moved : (i : ℕ) → i < below → slice_index marks i ≡ 1 → node_at now (marked_below marks i) ≡ moved_node marks (node_at nodes i)
  pub linked : AreLinks marks links below

-- what becomes of a reference by the links
abbrev pub linked_named : List ℕ → NodeRef → Named → NodeRef
linked_named links r (Leaf state) = r
linked_named links r (Inner index) = reference_to (slice_index links index - 1)

abbrev pub linked : List ℕ → NodeRef → NodeRef
linked links r = linked_named links r (node_of r)

-- a leaf needs no link, and an inner node has one
abbrev pub IsLinked : List ℕ → Named → Type 0
IsLinked links (Leaf state) = Unit {0}
IsLinked links (Inner index) = (index < length links) × (1 ≤ slice_index links index) × (slice_index links index ≤ 2 ^ 31)

-- a table with its roots replaced by the links
abbrev pub linked_table : List ℕ → RootTable → RootTable
linked_table links table = record { id = table.id; roots = map (linked links) table.roots }

-- marks that a move may go by: no more than 1, and the sides of a marked node are marked
pub record AreClosed (nodes : List Node) (marks : List ℕ) : Type 0 where
  pub bits : (i : ℕ) → slice_index marks i ≤ 1
  pub low : (i : ℕ) → i < length nodes → slice_index marks i ≡ 1 → IsMarked marks (node_of (node_at nodes i).low)
  pub high : (i : ℕ) → i < length nodes → slice_index marks i ≡ 1 → IsMarked marks (node_of (node_at nodes i).high)
