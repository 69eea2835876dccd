use Rattle.std.proofs.Common.{◌<◌, ℕ, slice_get}
use Rattle.tree_store.specs.Spots.{Adds, BoolIsOn}
use Rattle.tree_store.proofs.tracks.push_bools.Given as goal

abbrev pub invariant-loop-place : goal.invariant-loop-place
invariant-loop-place l = Adds (λ t. (k : ℕ) × (k < l.place) × BoolIsOn l.store l.cell (slice_get l.row.bools k) t) l.initial.tracks l.tracks
