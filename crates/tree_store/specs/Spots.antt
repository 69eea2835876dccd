-- The way down the tree of a store, spot by spot, and the tracks at a spot.
use Rattle.std.specs.Prelude.{◌≡◌, ℕ, zero, suc, ◌+◌, nat_lt, true, false, List, [], ◌∷◌, length, slice_get, is_some, Option, Some, None, option_map, Contains}
use Rattle.std.specs.Prelude.{◌⊎◌, if◌then◌else◌}
use Rattle.std.specs.Option.{option_and_then}
use Rattle.gta_theory.specs.Assignments.{Position}
use Rattle.ws2s_core.specs.declared.track.Track.{Track}
use Rattle.store_core.specs.declared.ids.FieldId.{FieldId}
use Rattle.store_core.specs.declared.ids.CellId.{CellId}
use Rattle.store_core.specs.declared.value.Value.{Value}
use Rattle.store_core.specs.declared.value.Value.TheVariants as value
use Rattle.store_core.specs.Tables.{TypeEntry, VarEntry}
use Rattle.store_core.specs.Stores.{StoreMap, cell_of, field_value, var_value}
use Rattle.tree_encode.specs.Tracks.{TrackUse}
use Rattle.tree_store.specs.declared.rows.Row.{Row}
use Rattle.tree_store.specs.declared.rows.Rows.{Rows}
use Rattle.tree_store.specs.declared.spots.Spot.{Spot}
use Rattle.tree_store.specs.declared.spots.Spot.TheVariants.{Slot, Child}
use Rattle.tree_store.specs.Encoding.{track_of, CellIsOn, RootIsOn}

-- ---- the way down

-- the live cell that the value names
abbrev pub named_cell : StoreMap → Option Value → Option CellId
named_cell s (Some (value.Cell (Some c))) = if is_some (cell_of s c) then Some c else None
named_cell s _ = None

-- the row of a cell's type
abbrev pub row_of : Rows → StoreMap → CellId → Option Row
row_of rows s c = option_and_then (λ cell. slice_get rows.types cell.variant.ty.0) (cell_of s c)

-- the cell at the 0-child of a spot
abbrev pub cell_below : Rows → StoreMap → Spot → Option CellId
cell_below rows s (Slot i) = option_and_then (λ v. named_cell s (var_value s v)) (slice_get rows.slots i)
cell_below rows s (Child c j) =
    option_and_then (λ row. option_and_then (λ f. named_cell s (field_value s c f)) (slice_get row.children j)) (row_of rows s c)

-- the number after this one, among so many
abbrev pub number_after : ℕ → ℕ → Option ℕ
number_after i count = if nat_lt (i + 1) count then Some (i + 1) else None

-- the spot at the 1-child of a spot
abbrev pub spot_after : Rows → StoreMap → Spot → Option Spot
spot_after rows s (Slot i) = option_map Slot (number_after i (length rows.slots))
spot_after rows s (Child c j) = option_and_then (λ row. option_map (Child c) (number_after j (length row.children))) (row_of rows s c)

-- the spot at the 0-child of a spot: its cell's first
abbrev pub spot_below : Rows → StoreMap → Spot → Option Spot
spot_below rows s spot = option_map (λ c. Child c 0) (cell_below rows s spot)

-- the spot at the end of the word, below a spot
abbrev pub spot_at : Rows → StoreMap → Spot → Position → Option Spot
spot_at rows s spot [] = Some spot
spot_at rows s spot (false ∷ w) = option_and_then (λ next. spot_at rows s next w) (spot_below rows s spot)
spot_at rows s spot (true ∷ w) = option_and_then (λ next. spot_at rows s next w) (spot_after rows s spot)

-- ---- the tracks at a spot

-- the root, or a cell, is on the track
abbrev pub IsOnAt : StoreMap → TrackUse → Option CellId → Type 0
IsOnAt s what None = RootIsOn s what
IsOnAt s what (Some c) = CellIsOn s what c

-- the track is that of a use on which the root, or the cell, is
abbrev pub HasTrack : List TypeEntry → List VarEntry → StoreMap → Option CellId → Track → Type 0
HasTrack types vars s at t = (what : TrackUse) × (track_of types vars what ≡ Some t) × IsOnAt s what at

-- the first slot stands at the root, and the first child of a cell where the cell does; no other spot has a track
abbrev pub SpotHasTrack : List TypeEntry → List VarEntry → StoreMap → Spot → Track → Type 0
SpotHasTrack types vars s (Slot zero) t = HasTrack types vars s None t
SpotHasTrack types vars s (Slot (suc i)) t = ⊥
SpotHasTrack types vars s (Child c zero) t = HasTrack types vars s (Some c) t
SpotHasTrack types vars s (Child c (suc j)) t = ⊥

-- the track is that of the bool field, if there is one, which is true of the cell
abbrev pub BoolIsOn : StoreMap → CellId → Option (FieldId × Track) → Track → Type 0
BoolIsOn s c field t = (pair : FieldId × Track) × (field ≡ Some pair) × (field_value s c pair.0 ≡ Some (value.Bool true)) × (pair.1 ≡ t)

-- the new list has what the old one has, and beside it the tracks of which this is so
pub record Adds (IsSo : Track → Type 0) (old new : List Track) : Type 0 where
  pub kept : (t : Track) → Contains old t → Contains new t
  pub added : (t : Track) → IsSo t → Contains new t
  pub only : (t : Track) → Contains new t → Contains old t ⊎ IsSo t
