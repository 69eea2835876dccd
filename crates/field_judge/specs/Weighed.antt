-- The tracks that are weighed, so that the weight of a tree counts the cells of its store.
use Rattle.std.specs.Prelude.{◌≡◌, ℕ, List, Some}
use Rattle.ws2s_core.specs.declared.track.Track.{Track}
use Rattle.store_core.specs.declared.ids.TypeId.{TypeId}
use Rattle.store_core.specs.declared.ids.VariantId.{VariantId}
use Rattle.store_core.specs.Tables.{TypeEntry}
use Rattle.tree_encode.specs.Tracks.{variant_track}

-- the track is that of a variant of the type
abbrev pub IsTrackOf : List TypeEntry → TypeId → Track → Type 0
IsTrackOf types ty t = (index : ℕ) × (variant_track types (record { ty = ty; index = index }) ≡ Some t)

-- the track is that of a variant
abbrev pub IsVariantTrack : List TypeEntry → Track → Type 0
IsVariantTrack types t = (v : VariantId) × (variant_track types v ≡ Some t)
