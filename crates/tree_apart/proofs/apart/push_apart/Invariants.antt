use Rattle.std.proofs.Common.{◌≡◌, ◌++◌, map, take}
use Rattle.tree_formula.specs.WellEncoded.{are_apart}
use Rattle.tree_apart.proofs.apart.push_apart.Given as goal

abbrev pub invariant-loop-other : goal.invariant-loop-other
invariant-loop-other l = l.parts.items ≡ l.initial.parts.items ++ map (are_apart l.fn.next l.l.types l.fn.v) (take l.other-index l.others)
