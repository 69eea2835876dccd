-- Functions that are numbered by what they give, with states replaced by their classes.
use Rattle.std.specs.Prelude.{◌≡◌, ◌≢◌, ℕ, ◌<◌, List, length, Some, slice_get, slice_index, slice_index_or}
use Rattle.labels.specs.Labels.{Label}
use Rattle.bdd_nodes.specs.declared.node_ref.NodeRef.{NodeRef}
use Rattle.bdd_nodes.specs.Shelf.{Contents, IsValid, AsksFrom, state_of}
use Rattle.bdd_list.specs.declared.listing.Listed.{Listed}
use Rattle.bdd_list.specs.declared.listing.Listed.TheVariants.{Leaf, Inner}
use Rattle.bdd_list.specs.declared.listing.ListedNode.{ListedNode}
use Rattle.bdd_list.specs.declared.listing.Listing.{Listing}
use Rattle.bdd_list.specs.Listing.{function_in, AsksNoneBelow}

-- the reference gives the class of each state that what is listed gives, and asks what it asks
pub record Stands (shelf : Contents) (classes : List ℕ) (nodes : List ListedNode) (listed : Listed) (r : NodeRef) : Type 0 where
  pub valid : IsValid shelf r
  pub states : (label : Label) → state_of shelf r label ≡ slice_index classes (function_in nodes listed label)
  pub asks : (t : ℕ) → AsksNoneBelow nodes t listed → AsksFrom shelf t r

-- the references stand for the nodes, in order
pub record AreNumbered (shelf : Contents) (classes : List ℕ) (nodes : List ListedNode) (refs : List NodeRef) : Type 0 where
  pub each : (i : ℕ) (r : NodeRef) → slice_get refs i ≡ Some r → Stands shelf classes nodes (Inner i) r

-- where a node is listed, the reference for it stands for it
pub record IsNumbered (shelf : Contents) (classes : List ℕ) (nodes : List ListedNode) (refs : List NodeRef) (listed : Listed) : Type 0 where
  pub each : (i : ℕ) (r : NodeRef) → listed ≡ Inner i → slice_get refs i ≡ Some r → Stands shelf classes nodes listed r

-- each reference stands for what is listed, wherever that of a listed node does
pub record StandFor (classes : List ℕ) (refs : List NodeRef) (listed : List Listed) (references : List NodeRef) : Type 0 where
  pub many : length references ≡ length listed
  pub each : (shelf : Contents) (nodes : List ListedNode) (k : ℕ) (one : Listed) (r : NodeRef) → IsNumbered shelf classes nodes refs one →
      slice_get listed k ≡ Some one → slice_get references k ≡ Some r → Stands shelf classes nodes one r

-- the number at an index
abbrev pub number_at : List NodeRef → ℕ → NodeRef
number_at numbers i = slice_index_or numbers i (record { word = 0 })

-- the class that the root at an index gives for a label
abbrev pub class_given : Listing → List ℕ → ℕ → Label → ℕ
class_given listing classes i label = slice_index classes (function_in listing.nodes (slice_index_or listing.roots i (Leaf 0)) label)

-- some label has different classes by the two roots
pub record GiveOthers (listing : Listing) (classes : List ℕ) (i j : ℕ) : Type 0 where
  pub label : Label
  pub differs : class_given listing classes i label ≢ class_given listing classes j label

-- a number for each root: roots of one number give the same classes, and roots of two numbers give different ones for
-- some label
pub record TellApart (listing : Listing) (classes : List ℕ) (numbers : List NodeRef) : Type 0 where
  pub many : length numbers ≡ length listing.roots
  pub same : (i j : ℕ) → i < length listing.roots → j < length listing.roots → number_at numbers i ≡ number_at numbers j →
      (label : Label) → class_given listing classes i label ≡ class_given listing classes j label
  pub apart : (i j : ℕ) → i < length listing.roots → j < length listing.roots → number_at numbers i ≢ number_at numbers j →
      GiveOthers listing classes i j
