use Rattle.std.proofs.Common.{◌≡◌, drop}
use Rattle.witness_store.specs.Finding.{variant_on}
use Rattle.witness_store.proofs.cells.variant_of.Given as goal

-- the variant is that of the tracks that are left
abbrev pub invariant-loop-track : goal.invariant-loop-track
invariant-loop-track l = variant_on l.variants l.tracks ≡ variant_on l.variants (drop l.track-index l.tracks)
