-- Lists of decision nodes: which function from labels to states a reference stands for, and what it asks.
-- (Shared, reduced and ordered decision diagrams with many leaves: Bryant 1986; Klarlund and Schwartzbach 1993.)
use Rattle.std.specs.Prelude.{◌≡◌, ◌≢◌, ℕ, suc, ◌-◌, ◌^◌, ◌<◌, ◌≤◌, List, [], ◌∷◌, ◌++◌, length, fold, Option, Some, None, MatchOption}
use Rattle.std.specs.Prelude.{slice_index_or, nat_lt, if◌then◌else◌}
use Rattle.labels.specs.Labels.{Function}
use Rattle.bdd_nodes.specs.declared.node_ref.NodeRef.{NodeRef}
use Rattle.bdd_nodes.specs.declared.node_ref.Named.{Named}
use Rattle.bdd_nodes.specs.declared.node_ref.Named.TheVariants.{Leaf, Inner}
use Rattle.bdd_nodes.specs.declared.node.Node.{Node}

-- what the reference names: the words below 2 ^ 31 are the leaves
unfoldable pub node_of : NodeRef → Named
node_of r = if nat_lt r.word (2 ^ 31) then Leaf r.word else Inner (r.word - 2 ^ 31)

-- how many indices the reference looks back over: a node's references have lower ranks than the node
abbrev pub rank : Named → ℕ
rank (Leaf state) = 0
rank (Inner index) = suc index

-- the node at an index, and a node of no use past the end
abbrev pub node_at : List Node → ℕ → Node
node_at nodes index =
    slice_index_or nodes index (record { track = 0; low = record { word = 0 }; high = record { word = 0 } })

-- the function that is named, over the functions of the nodes
abbrev pub function_named : List Function → Named → Function
function_named functions (Leaf state) = λ _. state
function_named functions (Inner index) = slice_index_or functions index (λ _. 0)

-- a node's function picks the high side where its track is set, over the functions of the nodes before
abbrev pub node_function : List Function → Node → Function
node_function before n = λ label.
    if label n.track then function_named before (node_of n.high) label
    else function_named before (node_of n.low) label

-- the functions of the nodes so far, with the next node's
abbrev pub with_next : List Function → Node → List Function
with_next before n = before ++ node_function before n ∷ []

-- the functions of all nodes, in order
unfoldable pub functions_of : List Node → List Function
functions_of nodes = fold with_next [] nodes

-- the state that is given for a label, by what is named
unfoldable pub state_named : List Node → Named → Function
state_named nodes = function_named (functions_of nodes)

-- the reference names a leaf or one of the nodes
abbrev pub IsNamedIn : List Node → Named → Type 0
IsNamedIn nodes (Leaf state) = Unit {0}
IsNamedIn nodes (Inner index) = index < length nodes

-- the track that is asked first
abbrev pub first_track : List Node → Named → Option ℕ
first_track nodes (Leaf state) = None
first_track nodes (Inner index) = Some (node_at nodes index).track

-- no track below t is asked: nodes ask their tracks in order, so the first one tells
abbrev pub AsksNoneBelow : List Node → ℕ → Named → Type 0
AsksNoneBelow nodes t named = MatchOption (first_track nodes named) (Unit {0}) (λ first. t ≤ first)

-- a side of the node of track t at an index: it stands before that index, and asks later tracks alone
pub record IsSide (nodes : List Node) (index t : ℕ) (r : NodeRef) : Type 0 where
  pub before : rank (node_of r) ≤ index
  pub later : AsksNoneBelow nodes (suc t) (node_of r)

-- each node's sides stand before it, ask later tracks, and differ; and no node is there twice
pub record AreCanonical (nodes : List Node) : Type 0 where
  pub low : (i : ℕ) → i < length nodes → IsSide nodes i (node_at nodes i).track (node_at nodes i).low
  pub high : (i : ℕ) → i < length nodes → IsSide nodes i (node_at nodes i).track (node_at nodes i).high
  pub differ : (i : ℕ) → i < length nodes → (node_at nodes i).low ≢ (node_at nodes i).high
  pub once : (i j : ℕ) → i < length nodes → j < length nodes → node_at nodes i ≡ node_at nodes j → i ≡ j
