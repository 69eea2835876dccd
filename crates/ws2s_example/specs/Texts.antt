-- The texts of the positions that nodes of a tree have on tracks, as sets in order.
use Rattle.std.specs.Prelude.{◌≡◌, ℕ, ◌<◌, ◌↔◌, ◌⊎◌, Bool, IsTrue, List, length, map, Contains, slice_get, Some}
use Rattle.std.specs.List.Sorted.{IsStrictlySortedBy}
use Rattle.std.specs.Ordering.{nat_cmp}
use Rattle.std.specs.Cmp.Lexicographic.{slice_cmp}
use Rattle.std.specs.BTreeSet.{BTreeSet}
use Rattle.std.specs.declared.vec.Vec.{Vec}
use Rattle.std.specs.declared.alloc.Global.{Global}
use Rattle.ws2s_core.specs.declared.track.Track.{Track}
use Rattle.ws2s_core.specs.declared.label_tree.TreeNode.{TreeNode}
use Rattle.ws2s_theory.specs.Trees.{label_of}
use Rattle.ws2s_example.specs.Hanging.{IsPlaceText}

-- a set of texts
abbrev pub Texts : Type 0
Texts = BTreeSet (Vec ℕ Global)

-- its texts, in order
abbrev pub texts_of : Texts → List (List ℕ)
texts_of set = map (λ text. text.items) set.keys

-- the texts ascend
abbrev pub Ascend : List (List ℕ) → Type 0
Ascend texts = IsStrictlySortedBy (slice_cmp nat_cmp) texts

-- the texts now are those before and, where it was to be added, this one
abbrev pub AddsWhere : Bool → List ℕ → List (List ℕ) → List (List ℕ) → Type 0
AddsWhere is_added text old new = (other : List ℕ) → Contains new other ↔ (Contains old other ⊎ (IsTrue is_added × (other ≡ text)))

-- each set ascends
abbrev pub AllAscend : List Texts → Type 0
AllAscend sets = (i : ℕ) (set : Texts) → slice_get sets i ≡ Some set → Ascend (texts_of set)

-- the text was added to the sets of the tracks
pub record Notes (tracks : List Track) (text : List ℕ) (before after : List Texts) : Type 0 where
  pub long : length after ≡ length before
  pub each : (i : ℕ) (old new : Texts) → slice_get before i ≡ Some old → slice_get after i ≡ Some new →
      AddsWhere (label_of tracks i) text (texts_of old) (texts_of new)

-- the text of a node's position was added to the sets of its tracks
pub record NotesNode (nodes : List TreeNode) (place : ℕ) (tracks : List Track) (before after : List Texts) : Type 0 where
  pub long : length after ≡ length before
  pub each : (i : ℕ) (old new : Texts) → slice_get before i ≡ Some old → slice_get after i ≡ Some new → (other : List ℕ) →
      Contains (texts_of new) other ↔ (Contains (texts_of old) other ⊎ (IsTrue (label_of tracks i) × IsPlaceText nodes place other))

-- the text is that of the position of one of the first nodes, which has the track
pub record HasText (nodes : List TreeNode) (count track : ℕ) (text : List ℕ) : Type 0 where
  pub place : ℕ
  pub first : place < count
  pub node : TreeNode
  pub there : slice_get nodes place ≡ Some node
  pub bit : IsTrue (label_of node.tracks track)
  pub is_text : IsPlaceText nodes place text

-- the sets have the texts of the first so many nodes
abbrev pub HaveTexts : List TreeNode → ℕ → List Texts → Type 0
HaveTexts nodes count sets =
    (i : ℕ) (set : Texts) → slice_get sets i ≡ Some set → (text : List ℕ) → Contains (texts_of set) text ↔ HasText nodes count i text
