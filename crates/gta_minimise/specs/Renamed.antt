-- The functions of listed nodes, with states replaced by their classes.
use Rattle.std.specs.Prelude.{◌≡◌, ℕ, ◌<◌, Bool, true, List, length, Some, slice_get, slice_index}
use Rattle.labels.specs.Labels.{Label, Function, with_below}
use Rattle.bdd_nodes.specs.declared.node_ref.NodeRef.{NodeRef}
use Rattle.bdd_nodes.specs.Shelf.{Contents, IsValid, state_of}
use Rattle.bdd_list.specs.declared.listing.Listed.{Listed}
use Rattle.bdd_list.specs.declared.listing.Listed.TheVariants.{Inner}
use Rattle.bdd_list.specs.declared.listing.ListedNode.{ListedNode}
use Rattle.bdd_list.specs.Listing.{function_in}
use Rattle.gta_classes.specs.Chosen.{is_marked}
use Rattle.gta_refine.specs.Numbered.{Stands}

-- the function of a marked node, with states replaced by their classes
pub record IsRenamed (classes : List ℕ) (nodes : List ListedNode) (marks : List Bool) (f : Function) : Type 0 where
  pub index : ℕ
  pub inside : index < length nodes
  pub marked : is_marked marks index ≡ true
  pub states : (label : Label) → f label ≡ slice_index classes (function_in nodes (Inner index) label)

-- the function is under that of something listed, with states replaced by their classes
pub record IsUnderRenamed (classes : List ℕ) (nodes : List ListedNode) (roots : List Listed) (f : Function) : Type 0 where
  pub place : ℕ
  pub root : Listed
  pub there : slice_get roots place ≡ Some root
  pub below : ℕ
  pub fixed : Label
  pub states : (label : Label) → f label ≡ slice_index classes (function_in nodes root (with_below below fixed label))

-- the references stand for the marked ones of the first nodes, in order
pub record AreMade (shelf : Contents) (classes : List ℕ) (nodes : List ListedNode) (marks : List Bool) (refs : List NodeRef) : Type 0 where
  pub each : (i : ℕ) (r : NodeRef) → slice_get refs i ≡ Some r → is_marked marks i ≡ true → Stands shelf classes nodes (Inner i) r

-- each of these gives the class of the state that what is listed gives
pub record AreRenamed (shelf : Contents) (classes : List ℕ) (nodes : List ListedNode) (roots : List Listed) (renamed : List NodeRef) : Type 0 where
  pub many : length renamed ≡ length roots
  pub valid : (k : ℕ) (r : NodeRef) → slice_get renamed k ≡ Some r → IsValid shelf r
  pub states : (k : ℕ) (root : Listed) (r : NodeRef) (label : Label) → slice_get roots k ≡ Some root → slice_get renamed k ≡ Some r →
      state_of shelf r label ≡ slice_index classes (function_in nodes root label)
