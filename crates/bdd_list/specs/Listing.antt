-- Lists of decision nodes: which function from labels to states what is listed stands for. (Shared, reduced and ordered
-- decision diagrams with many leaves: Bryant 1986; Klarlund and Schwartzbach 1993.)
use Rattle.std.specs.Prelude.{◌≡◌, ◌≢◌, ℕ, suc, ◌<◌, ◌≤◌, List, [], ◌∷◌, ◌++◌, length, fold, Option, Some, None, MatchOption}
use Rattle.std.specs.Prelude.{Contains, slice_get, slice_index_or, if◌then◌else◌}
use Rattle.labels.specs.Labels.{Label, Function, IsUnder}
use Rattle.bdd_nodes.specs.declared.node_ref.NodeRef.{NodeRef}
use Rattle.bdd_nodes.specs.Shelf.{Contents, state_of}
use Rattle.bdd_list.specs.declared.listing.Listed.{Listed}
use Rattle.bdd_list.specs.declared.listing.Listed.TheVariants.{Leaf, Inner}
use Rattle.bdd_list.specs.declared.listing.ListedNode.{ListedNode}
use Rattle.bdd_list.specs.declared.listing.Listing.{Listing}

-- how many nodes what is listed looks back over
abbrev pub rank : Listed → ℕ
rank (Leaf state) = 0
rank (Inner index) = suc index

-- the node at an index, and a node of no use past the end
abbrev pub node_at : List ListedNode → ℕ → ListedNode
node_at nodes index = slice_index_or nodes index (record { track = 0; low = Leaf 0; high = Leaf 0 })

-- the function that is named, over the functions of the nodes
abbrev pub function_named : List Function → Listed → Function
function_named functions (Leaf state) = λ _. state
function_named functions (Inner index) = slice_index_or functions index (λ _. 0)

-- a node's function picks the high side where its track is set, over the functions of the nodes before
abbrev pub node_function : List Function → ListedNode → Function
node_function before n = λ label.
    if label n.track then function_named before n.high label else function_named before n.low label

-- the functions of the nodes so far, with the next node's
abbrev pub with_next : List Function → ListedNode → List Function
with_next before n = before ++ node_function before n ∷ []

-- the function of what is listed, over the nodes
unfoldable pub function_in : List ListedNode → Listed → Function
function_in nodes listed = function_named (fold with_next [] nodes) listed

-- the function of what is listed
abbrev pub function_of : Listing → Listed → Function
function_of listing listed = function_in listing.nodes listed

-- it is a leaf or one of the nodes
abbrev pub IsIn : List ListedNode → Listed → Type 0
IsIn nodes listed = rank listed ≤ length nodes

-- the track that is asked first
abbrev pub first_track : List ListedNode → Listed → Option ℕ
first_track nodes (Leaf state) = None
first_track nodes (Inner index) = Some (node_at nodes index).track

-- no track below t is asked: nodes ask their tracks in order, so the first one tells
abbrev pub AsksNoneBelow : List ListedNode → ℕ → Listed → Type 0
AsksNoneBelow nodes t listed = MatchOption (first_track nodes listed) (Unit {0}) (λ first. t ≤ first)

-- a side of the node of a track at an index: it stands before that index, and asks later tracks alone
pub record IsSide (nodes : List ListedNode) (index track : ℕ) (listed : Listed) : Type 0 where
  pub before : rank listed ≤ index
  pub later : AsksNoneBelow nodes (suc track) listed

-- each node's sides stand before it and ask later tracks
pub record AreOrdered (nodes : List ListedNode) : Type 0 where
  pub low : (i : ℕ) → i < length nodes → IsSide nodes i (node_at nodes i).track (node_at nodes i).low
  pub high : (i : ℕ) → i < length nodes → IsSide nodes i (node_at nodes i).track (node_at nodes i).high

-- some label has different states by the two functions
pub record DifferSomewhere (f h : Function) : Type 0 where
  pub label : Label
  pub differs : f label ≢ h label

-- a root that the function is under
pub record IsUnderRoot (shelf : Contents) (roots : List NodeRef) (function : Function) : Type 0 where
  pub root : NodeRef
  pub there : Contains roots root
  pub under : IsUnder (state_of shelf root) function

-- the nodes under the roots: what is listed for a root has the root's function, each node is under a root, sides stand
-- before, and no function is listed twice
pub record IsListing (shelf : Contents) (roots : List NodeRef) (listing : Listing) : Type 0 where
  pub many : length listing.roots ≡ length roots
  pub ordered : AreOrdered listing.nodes
  pub inside : (k : ℕ) (listed : Listed) → slice_get listing.roots k ≡ Some listed → IsIn listing.nodes listed
  pub root : (k : ℕ) (r : NodeRef) (listed : Listed) → slice_get roots k ≡ Some r → slice_get listing.roots k ≡ Some listed →
      (label : Label) → function_of listing listed label ≡ state_of shelf r label
  pub under : (i : ℕ) → i < length listing.nodes → IsUnderRoot shelf roots (function_of listing (Inner i))
  pub differ : (one other : Listed) → IsIn listing.nodes one → IsIn listing.nodes other → one ≢ other →
      DifferSomewhere (function_of listing one) (function_of listing other)
