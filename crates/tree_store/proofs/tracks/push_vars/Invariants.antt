use Rattle.std.proofs.Common.{◌≡◌, ◌<◌, ℕ, Some}
use Rattle.tree_encode.specs.Tracks.{of_var, var_track}
use Rattle.tree_store.specs.Rows.{var_number}
use Rattle.tree_store.specs.Spots.{IsOnAt, Adds}
use Rattle.tree_store.proofs.tracks.push_vars.Given as goal

abbrev pub invariant-loop-index : goal.invariant-loop-index
invariant-loop-index l =
    Adds (λ t. (k : ℕ) × (k < l.index) × ((var_track l.l.types l.l.vars (var_number k) ≡ Some t) × IsOnAt l.store (of_var (var_number k)) l.at))
    l.initial.tracks l.tracks
