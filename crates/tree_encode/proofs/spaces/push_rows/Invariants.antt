use Rattle.std.proofs.Common.{◌≡◌, ◌++◌, length, drop}
use Rattle.tree_encode.specs.Spaces.{rows_after}
use Rattle.tree_encode.proofs.spaces.push_rows.Given as goal

abbrev pub invariant-loop-index : goal.invariant-loop-index
invariant-loop-index l =
    l.spaces.items ++ rows_after l.types l.start l.rest (length l.spaces.items) (drop l.index l.types)
    ≡ l.initial.spaces.items ++ rows_after l.types l.start l.rest (length l.initial.spaces.items) l.types
