-- The words on a shelf that contracts cite: functions, counts and tables. What stands in a shelf's records, and at
-- which index, is for the proofs of this crate alone.
use Rattle.std.specs.Prelude.{◌≡◌, ◌≢◌, ℕ, suc, ◌^◌, ◌<◌, ◌≤◌, List, [], length, Option, Some, None, if◌then◌else◌, nat_eq}
use Rattle.std.specs.List.{list_any}
use Rattle.bdd_nodes.specs.declared.node_ref.NodeRef.{NodeRef}
use Rattle.bdd_nodes.specs.declared.node_ref.Named.{Named}
use Rattle.bdd_nodes.specs.declared.node_ref.Named.TheVariants.{Leaf, Inner}
use Rattle.bdd_nodes.specs.declared.node.Node.{Node}
use Rattle.labels.specs.Labels.{Label, Function}
use Rattle.bdd_nodes.specs.Nodes.{node_of, rank, node_at, state_named, IsNamedIn, first_track, AsksNoneBelow, AreCanonical}
use Rattle.bdd_nodes.specs.Roots.{Registered, roots_under, root_under, AreNumbered}

-- what a shelf has: its nodes, the most that it may have, and its tables of roots
pub record Contents : Type 0 where
  pub nodes : List Node
  pub limit : ℕ
  pub roots : Registered

-- how many inner nodes there are
abbrev pub count_of : Contents → ℕ
count_of shelf = length shelf.nodes

-- how many there may be
abbrev pub limit_of : Contents → ℕ
limit_of shelf = shelf.limit

-- the shelf has what the reference names
abbrev pub IsValid : Contents → NodeRef → Type 0
IsValid shelf r = IsNamedIn shelf.nodes (node_of r)

-- the state that the reference gives for a label
abbrev pub state_of : Contents → NodeRef → Function
state_of shelf r = state_named shelf.nodes (node_of r)

-- the tracks of a list are set
abbrev pub label_of : List ℕ → Label
label_of tracks track = list_any (λ set. nat_eq set track) tracks

-- the first track that the reference asks; a leaf asks none
abbrev pub top_of : Contents → NodeRef → Option ℕ
top_of shelf r = first_track shelf.nodes (node_of r)

-- the side of what is named that is taken where its first track is unset; a leaf is its own side
abbrev pub low_named : List Node → NodeRef → Named → NodeRef
low_named nodes r (Leaf state) = r
low_named nodes r (Inner index) = (node_at nodes index).low

-- the side that is taken where it is set
abbrev pub high_named : List Node → NodeRef → Named → NodeRef
high_named nodes r (Leaf state) = r
high_named nodes r (Inner index) = (node_at nodes index).high

-- the reference where the first track is unset
abbrev pub low_of : Contents → NodeRef → NodeRef
low_of shelf r = low_named shelf.nodes r (node_of r)

-- the reference where the first track is set
abbrev pub high_of : Contents → NodeRef → NodeRef
high_of shelf r = high_named shelf.nodes r (node_of r)

-- no track below t is asked: what is set there changes nothing
abbrev pub AsksFrom : Contents → ℕ → NodeRef → Type 0
AsksFrom shelf t r = AsksNoneBelow shelf.nodes t (node_of r)

-- a number that falls from a reference to its sides
abbrev pub rank_of : NodeRef → ℕ
rank_of r = rank (node_of r)

-- the function of low where the track is unset, and of high where it is set
abbrev pub choice_of : Contents → ℕ → NodeRef → NodeRef → Function
choice_of shelf track low high = λ label. if label track then state_of shelf high label else state_of shelf low label

-- the reference may be a side of a node of the track: it is valid, and asks later tracks alone
pub record IsSideFor (shelf : Contents) (track : ℕ) (r : NodeRef) : Type 0 where
  pub valid : IsValid shelf r
  pub later : AsksFrom shelf (suc track) r

-- what a reference is under its first track: two different references that ask later tracks alone
pub record Splits (shelf : Contents) (r : NodeRef) (track : ℕ) : Type 0 where
  pub low : IsSideFor shelf track (low_of shelf r)
  pub high : IsSideFor shelf track (high_of shelf r)
  pub differ : low_of shelf r ≢ high_of shelf r
  pub states : (label : Label) → state_of shelf r label ≡ choice_of shelf track (low_of shelf r) (high_of shelf r) label
  pub low_falls : rank_of (low_of shelf r) < rank_of r
  pub high_falls : rank_of (high_of shelf r) < rank_of r

-- some valid reference of the shelf stands for the function
pub record Has (shelf : Contents) (function : Function) : Type 0 where
  pub at : NodeRef
  pub valid : IsValid shelf at
  pub states : (label : Label) → state_of shelf at label ≡ function label

-- two references stand for one function
abbrev pub SameFunction : Contents → NodeRef → NodeRef → Type 0
SameFunction shelf a b = (label : Label) → state_of shelf a label ≡ state_of shelf b label

-- there is no room for the node: its sides differ, the shelf is full, and nothing there stands for its function
pub record IsFullFor (shelf : Contents) (track : ℕ) (low high : NodeRef) : Type 0 where
  pub differ : low ≢ high
  pub full : count_of shelf ≡ limit_of shelf
  pub absent : Has shelf (choice_of shelf track low high) → ⊥

-- how many tables were registered so far
abbrev pub tables_added : Contents → ℕ
tables_added shelf = shelf.roots.added

-- the roots of the table with this number, as they stand now
abbrev pub roots_of : Contents → ℕ → Option (List NodeRef)
roots_of shelf number = roots_under shelf.roots.tables number

-- the root at an index of the table with this number
abbrev pub root_of : Contents → ℕ → ℕ → Option NodeRef
root_of shelf number index = root_under shelf.roots.tables number index

-- one node for each function, at most `limit` of them; and every registered root is valid
pub record IsShelf (shelf : Contents) : Type 0 where
  pub canonical : AreCanonical shelf.nodes
  pub within : count_of shelf ≤ limit_of shelf
  pub some : 1 ≤ limit_of shelf
  pub small : limit_of shelf ≤ 16000000
  pub numbered : AreNumbered shelf.roots.tables shelf.roots.added
  pub roots : (number index : ℕ) (root : NodeRef) → root_of shelf number index ≡ Some root → IsValid shelf root

-- a shelf with room for `limit` nodes, without nodes and tables
abbrev pub empty_shelf : ℕ → Contents
empty_shelf limit = record { nodes = []; limit = limit; roots = record { tables = []; added = 0 } }

-- the reference is the leaf of a state: it gives that state for every label in every shelf, and asks nothing
pub record IsLeaf (r : NodeRef) (state : ℕ) : Type 0 where
  pub small : state < 2 ^ 31
  pub valid : (shelf : Contents) → IsValid shelf r
  pub states : (shelf : Contents) (label : Label) → state_of shelf r label ≡ state
  pub asks : (shelf : Contents) (t : ℕ) → AsksFrom shelf t r
  pub top : (shelf : Contents) → top_of shelf r ≡ None
  pub side : (shelf : Contents) (track : ℕ) → IsSideFor shelf track r
