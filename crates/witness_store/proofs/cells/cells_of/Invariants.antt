use Rattle.std.proofs.Common.{◌≡◌, take}
use Rattle.witness_store.specs.Finding.{variant_in, found_among}
use Rattle.witness_store.proofs.cells.cells_of.Given as goal

-- what was found at the places so far
abbrev pub invariant-loop-place : goal.invariant-loop-place
invariant-loop-place l = l.cells.items ≡ found_among (variant_in l.nodes l.variants.items) (take l.place-index l.place-items)
