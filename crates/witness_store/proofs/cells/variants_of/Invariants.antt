use Rattle.std.proofs.Common.{◌≡◌, take}
use Rattle.tree_encode.specs.Tracks.{variants_from}
use Rattle.witness_store.proofs.cells.variants_of.Given as goal

-- the variants of the types so far
abbrev pub invariant-loop-index : goal.invariant-loop-index
invariant-loop-index l = l.variants.items ≡ variants_from 0 (take l.index l.types)
