use Rattle.std.proofs.Common.{◌≡◌, ◌++◌, drop}
use Rattle.graph_view.specs.Cuts.{both_name, pairs}
use Rattle.graph_type.proofs.shared.push_value_pairs.Given as goal

abbrev pub invariant-loop-place : goal.invariant-loop-place
invariant-loop-place l = l.parts.items ++ pairs (both_name l.fn.next l.fn.c) (drop l.place l.values)
    ≡ l.initial.parts.items ++ pairs (both_name l.fn.next l.fn.c) l.values
