-- A tree that is made from the root down, and turned about.
use Rattle.std.specs.Prelude.{◌≡◌, ℕ, ◌+◌, ◌-◌, ◌<◌, ◌≤◌, List, [], length, slice_get, Option, Some, None, option_map}
use Rattle.ws2s_core.specs.declared.label_tree.TreeNode.{TreeNode}
use Rattle.ws2s_core.specs.LabelTrees.{times_named}
use Rattle.store_core.specs.Tables.{TypeEntry, VarEntry}
use Rattle.store_core.specs.Stores.{StoreMap}
use Rattle.tree_store.specs.declared.rows.Rows.{Rows}
use Rattle.tree_store.specs.declared.spots.Spot.{Spot}
use Rattle.tree_store.specs.declared.spots.Spot.TheVariants.{Slot}
use Rattle.tree_store.specs.Spots.{spot_below, spot_after, SpotHasTrack, Adds}

-- the link names the place of the spot, behind place k, or nothing where there is no spot
abbrev pub LinksTo : List Spot → ℕ → Option Spot → Option ℕ → Type 0
LinksTo spots k None None = Unit {0}
LinksTo spots k None (Some m) = ⊥
LinksTo spots k (Some spot) None = ⊥
LinksTo spots k (Some spot) (Some m) = (k < m) × (slice_get spots m ≡ Some spot)

-- the node at place k is that of the spot there: its tracks, and the places of the spots at its children
pub record IsNodeAt (types : List TypeEntry) (vars : List VarEntry) (s : StoreMap) (rows : Rows) (spots : List Spot) (k : ℕ) (node : TreeNode) :
    Type 0 where
  pub spot : Spot
  pub here : slice_get spots k ≡ Some spot
  pub label : Adds (SpotHasTrack types vars s spot) [] node.tracks
  pub left : LinksTo spots k (spot_below rows s spot) node.left
  pub right : LinksTo spots k (spot_after rows s spot) node.right

-- the nodes of the first spots are made, parents first: each further spot is named once, and each has a place
pub record IsGrown (types : List TypeEntry) (vars : List VarEntry) (s : StoreMap) (rows : Rows) (spots : List Spot) (nodes : List TreeNode) :
    Type 0 where
  pub few : length spots < 4294967295
  pub made : length nodes ≤ length spots
  pub first : slice_get spots 0 ≡ Some (Slot 0)
  pub each : (k : ℕ) (node : TreeNode) → slice_get nodes k ≡ Some node → IsNodeAt types vars s rows spots k node
  pub once : (m : ℕ) → m + 1 < length spots → times_named nodes (m + 1) ≡ 1
  pub no_more : (m : ℕ) → length spots ≤ m → times_named nodes m ≡ 0

-- a node whose children are counted from the other end, the last place being this
abbrev pub turned_node : ℕ → TreeNode → TreeNode
turned_node last node = record {
  tracks = node.tracks;
  left = option_map (λ k. last - k) node.left;
  right = option_map (λ k. last - k) node.right;
}
