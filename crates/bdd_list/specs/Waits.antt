-- What is kept on the way: the nodes that wait for their sides, and those that are listed.
use Rattle.std.specs.Prelude.{◌≡◌, ℕ, ◌+◌, ◌*◌, ◌^◌, ◌<◌, Bool, List, [], ◌∷◌, ◌++◌, length, Option, Some, None, Contains, nat_eq}
use Rattle.std.specs.declared.hash.FoldHasher.{FoldHasher}
use Rattle.std.specs.declared.hash.BuildHasherDefault.{BuildHasherDefault}
use Rattle.std.specs.HashMap.{get, HashMap}
use Rattle.labels.specs.Labels.{Label}
use Rattle.bdd_nodes.specs.declared.node_ref.NodeRef.{NodeRef}
use Rattle.bdd_nodes.specs.Shelf.{Contents, IsShelf, IsValid, Splits, state_of, top_of, low_of, high_of, rank_of}
use Rattle.bdd_nodes.specs.Changes.{Reaches}
use Rattle.bdd_list.specs.declared.listing.Listed.{Listed}
use Rattle.bdd_list.specs.declared.listing.Listed.TheVariants.{Inner}
use Rattle.bdd_list.specs.declared.listing.ListedNode.{ListedNode}
use Rattle.bdd_list.specs.declared.walk.Frame.{Frame}
use Rattle.bdd_list.specs.declared.walk.Frame.TheVariants.{Low, High}
use Rattle.bdd_list.specs.declared.walk.Turn.{Turn}
use Rattle.bdd_list.specs.declared.walk.Turn.TheVariants.{Visit, Done}
use Rattle.bdd_list.specs.Listing.{IsIn, first_track, function_in, AreOrdered}

-- what is listed so far, by reference
abbrev pub Memo : Type 0
Memo = HashMap NodeRef Listed (BuildHasherDefault FoldHasher)

abbrev pub same_ref : NodeRef → NodeRef → Bool
same_ref a b = nat_eq a.word b.word

-- what is listed for the reference
abbrev pub found : Memo → NodeRef → Option Listed
found memo r = get same_ref memo r

-- nodes were put at the end
pub record Extends (old new : List ListedNode) : Type 0 where
  pub more : List ListedNode
  pub is : new ≡ old ++ more

-- what is listed has the reference's function, and asks what it asks
pub record Lists (shelf : Contents) (nodes : List ListedNode) (r : NodeRef) (listed : Listed) : Type 0 where
  pub valid : IsValid shelf r
  pub inside : IsIn nodes listed
  pub top : first_track nodes listed ≡ top_of shelf r
  pub states : (label : Label) → function_in nodes listed label ≡ state_of shelf r label

-- some root reaches the reference
pub record IsUnderSome (shelf : Contents) (roots : List NodeRef) (r : NodeRef) : Type 0 where
  pub root : NodeRef
  pub there : Contains roots root
  pub reached : Reaches shelf.nodes root r

-- the node at an index was listed for a reference under the roots
pub record IsFor (shelf : Contents) (roots : List NodeRef) (memo : Memo) (index : ℕ) : Type 0 where
  pub node : NodeRef
  pub found_there : found memo node ≡ Some (Inner index)
  pub under : IsUnderSome shelf roots node

-- the nodes so far: each was listed for a reference, and what was listed for one has its function
pub record IsList (shelf : Contents) (roots : List NodeRef) (nodes : List ListedNode) (memo : Memo) : Type 0 where
  pub ordered : AreOrdered nodes
  pub lists : (r : NodeRef) (listed : Listed) → found memo r ≡ Some listed → Lists shelf nodes r listed
  pub each : (index : ℕ) → index < length nodes → IsFor shelf roots memo index

-- a node that isn't listed yet, under the roots
pub record IsDue (shelf : Contents) (roots : List NodeRef) (memo : Memo) (node : NodeRef) (track : ℕ) : Type 0 where
  pub valid : IsValid shelf node
  pub top : top_of shelf node ≡ Some track
  pub splits : Splits shelf node track
  pub fresh : found memo node ≡ None
  pub under : IsUnderSome shelf roots node

-- each node waits for what is above it, and the lowest is the whole; the top of the stack comes first
abbrev pub AllWait : Contents → List NodeRef → List ListedNode → Memo → NodeRef → List Frame → NodeRef → Type 0
AllWait shelf roots nodes memo whole [] focus = focus ≡ whole
AllWait shelf roots nodes memo whole (Low node track high ∷ frames) focus =
    (focus ≡ low_of shelf node) × (high ≡ high_of shelf node) × IsDue shelf roots memo node track
    × AllWait shelf roots nodes memo whole frames node
AllWait shelf roots nodes memo whole (High node track low ∷ frames) focus =
    (focus ≡ high_of shelf node) × Lists shelf nodes (low_of shelf node) low × IsDue shelf roots memo node track
    × AllWait shelf roots nodes memo whole frames node

-- the call: its shelf, its roots, the nodes that stood before, and the root that is gone down from
pub record Work : Type 0 where
  pub shelf : Contents
  pub roots : List NodeRef
  pub before : List ListedNode
  pub whole : NodeRef

-- the stack waits for the reference
pub record IsVisited (work : Work) (nodes : List ListedNode) (memo : Memo) (stack : List Frame) (r : NodeRef) : Type 0 where
  pub valid : IsValid work.shelf r
  pub under : IsUnderSome work.shelf work.roots r
  pub waits : AllWait work.shelf work.roots nodes memo work.whole stack r

-- the stack waits for what is listed
pub record IsAwaited (work : Work) (nodes : List ListedNode) (memo : Memo) (stack : List Frame) (listed : Listed) : Type 0 where
  pub focus : NodeRef
  pub lists : Lists work.shelf nodes focus listed
  pub waits : AllWait work.shelf work.roots nodes memo work.whole stack focus

abbrev pub IsUnderway : Work → List ListedNode → Memo → List Frame → Turn → Type 0
IsUnderway work nodes memo stack (Visit r) = IsVisited work nodes memo stack r
IsUnderway work nodes memo stack (Done listed) = IsAwaited work nodes memo stack listed

-- the walk at work
pub record Works (work : Work) (nodes : List ListedNode) (memo : Memo) (stack : List Frame) (turn : Turn) : Type 0 where
  pub is_shelf : IsShelf work.shelf
  pub list : IsList work.shelf work.roots nodes memo
  pub extends : Extends work.before nodes
  pub underway : IsUnderway work nodes memo stack turn

-- how many turns a reference may take, with room to spare
abbrev pub visit_cost : NodeRef → ℕ
visit_cost r = 2 ^ (2 * rank_of r + 2)

-- how many turns are left for a node that waits
abbrev pub frame_cost : Frame → ℕ
frame_cost (Low node track high) = visit_cost high + 2
frame_cost (High node track low) = 1

-- how many are left for all that wait
abbrev pub stack_cost : List Frame → ℕ
stack_cost [] = 0
stack_cost (frame ∷ frames) = frame_cost frame + stack_cost frames

-- how many are left for what is worked on
abbrev pub turn_cost : Turn → ℕ
turn_cost (Visit r) = visit_cost r
turn_cost (Done listed) = 0
