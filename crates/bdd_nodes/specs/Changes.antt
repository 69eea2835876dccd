-- What a call leaves of a shelf.
use Rattle.std.specs.Prelude.{◌≡◌, ◌≢◌, ◌+◌, None, ℕ, Bool, true, List, length, Some, option_map, IsSome, slice_get, nat_lt, ◌⊎◌, ◌↔◌, Contains}
use Rattle.bdd_nodes.specs.declared.node_ref.NodeRef.{NodeRef}
use Rattle.bdd_nodes.specs.declared.node_ref.Named.{Named}
use Rattle.bdd_nodes.specs.declared.node_ref.Named.TheVariants.{Leaf, Inner}
use Rattle.bdd_nodes.specs.declared.node.Node.{Node}
use Rattle.bdd_nodes.specs.declared.roots.RootTable.{RootTable}
use Rattle.labels.specs.Labels.{Label, Function}
use Rattle.bdd_nodes.specs.Nodes.{node_of, first_track}
use Rattle.bdd_nodes.specs.Roots.{root_under}
use Rattle.bdd_nodes.specs.Shelf.{Contents, limit_of, IsValid, state_of, top_of, low_of, high_of, low_named, high_named, AsksFrom, roots_of, root_of}
use Rattle.bdd_nodes.specs.Shelf.{tables_added}

-- every valid reference stays valid, with its function and with what it is under its first track
pub record Keeps (old new : Contents) : Type 0 where
  pub valid : (r : NodeRef) → IsValid old r → IsValid new r
  pub states : (r : NodeRef) (label : Label) → IsValid old r → state_of new r label ≡ state_of old r label
  pub top : (r : NodeRef) → IsValid old r → top_of new r ≡ top_of old r
  pub low : (r : NodeRef) → IsValid old r → low_of new r ≡ low_of old r
  pub high : (r : NodeRef) → IsValid old r → high_of new r ≡ high_of old r
  pub asks : (r : NodeRef) (t : ℕ) → IsValid old r → AsksFrom old t r → AsksFrom new t r

-- the nodes and the limit are the same
pub record SameNodes (old new : Contents) : Type 0 where
  pub nodes : new.nodes ≡ old.nodes
  pub limit : limit_of new ≡ limit_of old

-- the tables are the same, and as many were added
abbrev pub SameTables : Contents → Contents → Type 0
SameTables old new = new.roots ≡ old.roots

-- a table is registered under a number of its own, and nothing else changes
pub record AddsTable (old new : Contents) (table : ℕ) (list : List NodeRef) : Type 0 where
  pub number : table ≡ tables_added old
  pub added : tables_added new ≡ tables_added old + 1
  pub roots : roots_of new table ≡ Some list
  pub others : (other : ℕ) → other ≢ table → roots_of new other ≡ roots_of old other
  pub nodes : SameNodes old new

-- a table is no longer registered, and nothing else changes
pub record DropsTable (old new : Contents) (number : ℕ) : Type 0 where
  pub gone : roots_of new number ≡ None
  pub others : (other : ℕ) → other ≢ number → roots_of new other ≡ roots_of old other
  pub added : tables_added new ≡ tables_added old
  pub nodes : SameNodes old new

-- whether the shelf has what the reference names
abbrev pub is_named_in : List Node → Named → Bool
is_named_in nodes (Leaf state) = true
is_named_in nodes (Inner index) = nat_lt index (length nodes)

-- whether the reference is valid
unfoldable pub is_valid : Contents → NodeRef → Bool
is_valid shelf r = is_named_in shelf.nodes (node_of r)

-- the reference alone is valid that wasn't before
unfoldable pub AddsOnly : Contents → Contents → NodeRef → Type 0
AddsOnly old new made = (r : NodeRef) → IsValid new r → IsValid old r ⊎ (r ≡ made)

-- the references that are reached from one by going to sides
pub data Reaches (nodes : List Node) (from : NodeRef) : NodeRef → Type 0 where
  itself : Reaches nodes from from
  by_low : (r : NodeRef) → Reaches nodes from r → Reaches nodes from (low_named nodes r (node_of r))
  by_high : (r : NodeRef) → Reaches nodes from r → Reaches nodes from (high_named nodes r (node_of r))

-- a reached reference that stands for the function
pub record ReachesFunction (shelf : Contents) (from : NodeRef) (function : Function) : Type 0 where
  pub at : NodeRef
  pub valid : IsValid shelf at
  pub reached : Reaches shelf.nodes from at
  pub states : (label : Label) → state_of shelf at label ≡ function label

-- an inner node under a root of a table
pub record IsUnderRoot (nodes : List Node) (tables : List RootTable) (r : NodeRef) : Type 0 where
  pub track : ℕ
  pub inner : first_track nodes (node_of r) ≡ Some track
  pub number : ℕ
  pub index : ℕ
  pub root : NodeRef
  pub registered : root_under tables number index ≡ Some root
  pub reached : Reaches nodes root r

-- an inner node under a registered root
abbrev pub IsHeld : Contents → NodeRef → Type 0
IsHeld shelf r = IsUnderRoot shelf.nodes shelf.roots.tables r

-- so many inner nodes stand under registered roots, each counted once
pub record CountsHeld (shelf : Contents) (count : ℕ) : Type 0 where
  pub held : List NodeRef
  pub each : (r : NodeRef) → Contains held r ↔ IsHeld shelf r
  pub once : (i j : ℕ) (r : NodeRef) → slice_get held i ≡ Some r → slice_get held j ≡ Some r → i ≡ j
  pub length : length held ≡ count

-- a root has moved: it stands for the function that it stood for, and asks what it asked
pub record IsMoved (old new : Contents) (was now : NodeRef) : Type 0 where
  pub states : (label : Label) → state_of new now label ≡ state_of old was label
  pub top : top_of new now ≡ top_of old was

-- the tables are registered as before, with as many roots, and each root may have moved
pub record MovesRoots (old new : Contents) : Type 0 where
  pub added : tables_added new ≡ tables_added old
  pub lengths : (number : ℕ) → option_map length (roots_of new number) ≡ option_map length (roots_of old number)
  pub registered : (number : ℕ) → IsSome (roots_of old number) → IsSome (roots_of new number)
  pub moved : (number index : ℕ) (was now : NodeRef) → root_of old number index ≡ Some was → root_of new number index ≡ Some now → IsMoved old new was now
