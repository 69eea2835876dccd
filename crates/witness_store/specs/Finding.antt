-- The cells that are found at the nodes of a tree.
use Rattle.std.specs.Prelude.{◌≡◌, ℕ, ◌==◌, suc, ◌<◌, List, [], ◌∷◌, length, slice_get, Option, Some, None, if◌then◌else◌}
use Rattle.std.specs.Option.{option_and_then, option_map_or}
use Rattle.ws2s_core.specs.declared.label_tree.TreeNode.{TreeNode}
use Rattle.ws2s_core.specs.LabelTrees.{assignment_of}
use Rattle.ws2s_theory.specs.Trees.{StandsAt}
use Rattle.ws2s_core.specs.declared.track.Track.{Track}
use Rattle.store_core.specs.declared.ids.CellId.{CellId}
use Rattle.store_core.specs.declared.ids.VariantId.{VariantId}
use Rattle.store_core.specs.Tables.{TypeEntry}
use Rattle.tree_store.specs.Decoded.{Standing, AreCells, numbered}
use Rattle.witness_store.specs.declared.cells.Found.{Found}

-- the variant of the first of the tracks that is a variant's, the variants being listed by their tracks
abbrev pub variant_on : List VariantId → List Track → Option VariantId
variant_on variants [] = None
variant_on variants (t ∷ tracks) = option_map_or (λ v. Some v) (slice_get variants t.0) (variant_on variants tracks)

-- the variant of the node at a place
abbrev pub variant_in : List TreeNode → List VariantId → ℕ → Option VariantId
variant_in nodes variants k = option_and_then (λ (node : TreeNode). variant_on variants node.tracks) (slice_get nodes k)

-- what is found at these places
abbrev pub found_among : (ℕ → Option VariantId) → List ℕ → List Found
found_among variant [] = []
found_among variant (k ∷ places) =
    option_map_or (λ v. record { node = k; variant = v } ∷ found_among variant places) (variant k) (found_among variant places)

-- what was found is of the variant, at the node of the position
pub record IsFoundAs (nodes : List TreeNode) (f : Found) (x : Standing) : Type 0 where
  pub variant : f.variant ≡ x.variant
  pub node : StandsAt nodes f.node x.at

-- these were found for those, one by one
pub record AreFoundAs (nodes : List TreeNode) (found : List Found) (cells : List Standing) : Type 0 where
  pub count : length found ≡ length cells
  pub each : (i : ℕ) (f : Found) (x : Standing) → slice_get found i ≡ Some f → slice_get cells i ≡ Some x → IsFoundAs nodes f x

-- what was found are the cells of the tree, one by one
pub record AreFound (types : List TypeEntry) (nodes : List TreeNode) (found : List Found) (cells : List Standing) : Type 0 where
  pub cells_are : AreCells types (assignment_of nodes) cells
  pub found_as : AreFoundAs nodes found cells

-- there are such cells
abbrev pub FindsCells : List TypeEntry → List TreeNode → List Found → Type 0
FindsCells types nodes found = (cells : List Standing) × AreFound types nodes found cells

-- what was found is at nodes that are there, and there are few enough for a number each
pub record AreInside (found : List Found) (count : ℕ) : Type 0 where
  pub few : length found < 4294967295
  pub inside : (i : ℕ) (f : Found) → slice_get found i ≡ Some f → f.node < count

-- the number of the last that was found at the node, those that were found being numbered from n on
abbrev pub number_of : ℕ → ℕ → List Found → Option CellId
number_of k n [] = None
number_of k n (f ∷ found) = option_map_or (λ c. Some c) (number_of k (suc n) found) (if f.node == k then Some (numbered n) else None)

-- by the places of so many nodes the numbers of what was found there
pub record AreNumbers (found : List Found) (count : ℕ) (numbers : List (Option CellId)) : Type 0 where
  pub long : length numbers ≡ count
  pub each : (k : ℕ) → k < count → slice_get numbers k ≡ Some (number_of k 1 found)
