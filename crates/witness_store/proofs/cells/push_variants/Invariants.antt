use Rattle.std.proofs.Common.{◌≡◌, ◌++◌}
use Rattle.tree_encode.specs.Tracks.{variants_at}
use Rattle.witness_store.proofs.cells.push_variants.Given as goal

-- the variants so far
abbrev pub invariant-loop-index : goal.invariant-loop-index
invariant-loop-index l = l.variants.items ≡ l.initial.variants.items ++ variants_at l.ty.0 0 l.index
