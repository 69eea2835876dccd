use Rattle.std.proofs.Common.{◌≡◌, ◌++◌, map, take}
use Rattle.graph_view.specs.Cuts.{both_name}
use Rattle.graph_type.proofs.shared.push_both.Given as goal

abbrev pub invariant-loop-other : goal.invariant-loop-other
invariant-loop-other l = l.parts.items ≡ l.initial.parts.items ++ map (both_name l.fn.next l.fn.c l.fn.value) (take l.other-index l.others)
