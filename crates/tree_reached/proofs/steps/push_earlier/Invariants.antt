use Rattle.std.proofs.Common.{◌≡◌, ◌++◌, flat_map, take}
use Rattle.tree_reached.specs.ByField.{is_earlier}
use Rattle.tree_reached.proofs.steps.push_earlier.Given as goal

abbrev pub invariant-loop-gap : goal.invariant-loop-gap
invariant-loop-gap l =
    l.parts.items ≡ l.initial.parts.items ++ flat_map (is_earlier l.own l.r l.number) (take l.gap-index l.gaps)
