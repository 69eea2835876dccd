-- Which positions a store has on the tracks of its tree. (Klarlund and Schwartzbach 1993: a store as a labelled backbone.)
use Rattle.std.specs.Prelude.{◌≡◌, ◌≤◌, ◌↔◌, ◌⊎◌, ℕ, true, false, IsTrue, List, [], Option, Some, IsSomeAnd, Contains}
use Rattle.gta_theory.specs.Assignments.{Position, Assignment}
use Rattle.ws2s_core.specs.declared.track.Track.{Track}
use Rattle.ws2s_core.specs.declared.label_tree.TreeNode.{TreeNode}
use Rattle.ws2s_core.specs.LabelTrees.{assignment_of}
use Rattle.store_core.specs.declared.ids.CellId.{CellId}
use Rattle.store_core.specs.declared.value.Value.{Value}
use Rattle.store_core.specs.declared.value.Value.TheVariants as value
use Rattle.store_core.specs.Tables.{TypeEntry, VarEntry}
use Rattle.store_core.specs.Stores.{StoreMap, field_value, var_value}
use Rattle.routing_walks.specs.Walks.{IsOfVariant}
use Rattle.tree_encode.specs.Tracks.{TrackUse, of_variant, of_bool, of_var, track_count, variant_track, bool_track, var_track}
use Rattle.tree_encode.specs.Positions.{IsPlaced}

-- the track of a variant, a bool field or a variable, where there is one
abbrev pub track_of : List TypeEntry → List VarEntry → TrackUse → Option Track
track_of types vars (of_variant v) = variant_track types v
track_of types vars (of_bool f) = bool_track types f
track_of types vars (of_var v) = var_track types vars v

-- the value is the cell, or a set that holds it
abbrev pub NamesCell : Value → CellId → Type 0
NamesCell (value.Bool truth) c = ⊥
NamesCell (value.Cell d) c = d ≡ Some c
NamesCell (value.Cells cells) c = Contains cells c

-- the cell is on the track: it is of the variant, its bool field is true, or the variable is the cell or holds it
abbrev pub CellIsOn : StoreMap → TrackUse → CellId → Type 0
CellIsOn s (of_variant v) c = IsOfVariant s v c
CellIsOn s (of_bool f) c = field_value s c f ≡ Some (value.Bool true)
CellIsOn s (of_var v) c = IsSomeAnd (var_value s v) (λ x. NamesCell x c)

-- the root is on the track: the variable is true
abbrev pub RootIsOn : StoreMap → TrackUse → Type 0
RootIsOn s (of_variant v) = ⊥
RootIsOn s (of_bool f) = ⊥
RootIsOn s (of_var v) = var_value s v ≡ Some (value.Bool true)

-- the position is on the track: it is the root, which is on it, or that of a cell which is on it
abbrev pub IsOn : List TypeEntry → List VarEntry → StoreMap → TrackUse → Position → Type 0
IsOn types vars s what p = ((p ≡ []) × RootIsOn s what) ⊎ ((c : CellId) × IsPlaced types vars s c p × CellIsOn s what c)

-- on the tracks of the layout, the assignment has the positions of the store and no other
pub record IsAssignmentOf (types : List TypeEntry) (vars : List VarEntry) (s : StoreMap) (a : Assignment) : Type 0 where
  pub tracks : (what : TrackUse) (t : Track) (p : Position) → track_of types vars what ≡ Some t → IsTrue (a t.0 p) ↔ IsOn types vars s what p

-- the tree stands for the assignment of the store, and has no position on any further track
pub record IsTreeOf (types : List TypeEntry) (vars : List VarEntry) (s : StoreMap) (nodes : List TreeNode) : Type 0 where
  pub assignment : IsAssignmentOf types vars s (assignment_of nodes)
  pub no_other : (t : ℕ) (p : Position) → track_count types vars ≤ t → assignment_of nodes t p ≡ false
