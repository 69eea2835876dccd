use Rattle.std.proofs.Common.{◌≡◌, ◌++◌, flat_map, take}
use Rattle.tree_reached.specs.ByField.{begins_after}
use Rattle.tree_reached.proofs.steps.push_begins.Given as goal

abbrev pub invariant-loop-way : goal.invariant-loop-way
invariant-loop-way l =
    l.parts.items ≡ l.initial.parts.items ++ flat_map (begins_after l.fn.next l.l.types l.fn.r l.fn.number) (take l.way-index l.ways)
