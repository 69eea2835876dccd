use Rattle.std.proofs.Common.{◌≡◌, ◌+◌, ◌++◌, length, drop}
use Rattle.tree_encode.specs.Spaces.{row_of_some}
use Rattle.tree_encode.proofs.spaces.push_row.Given as goal

abbrev pub invariant-loop-child : goal.invariant-loop-child
invariant-loop-child l = record {
  left : l.left + l.child-index ≡ length l.children;
  made : l.spaces.items ++ row_of_some (length l.spaces.items) l.rest (drop l.child-index l.children)
      ≡ l.initial.spaces.items ++ row_of_some (length l.initial.spaces.items) l.rest l.children;
}
