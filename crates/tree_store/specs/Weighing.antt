-- The tracks that are weighed: those of live cells.
use Rattle.std.specs.Prelude.{◌≡◌, ◌≢◌, ◌↔◌, ℕ, List, Some, Contains, AllPairs}
use Rattle.store_core.specs.declared.ids.VariantId.{VariantId}
use Rattle.store_core.specs.Tables.{TypeEntry}
use Rattle.tree_encode.specs.Tracks.{track_at, variant_track}

-- the numbers are those of the tracks of the variants, each once
pub record AreVariantTracks (types : List TypeEntry) (tracks : List ℕ) : Type 0 where
  pub once : AllPairs (λ t u. t ≢ u) tracks
  pub exactly : (t : ℕ) → Contains tracks t ↔ ((v : VariantId) × (variant_track types v ≡ Some (track_at t)))
