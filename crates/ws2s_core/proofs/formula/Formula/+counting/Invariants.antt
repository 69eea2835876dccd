use Rattle.std.proofs.Common.{◌+◌, ◌*◌, ◌≤◌}
use Rattle.ws2s_core.specs.Sizes.{node_count, strahler_order, IsCountedTo}
use Rattle.ws2s_core.proofs.formula.Formula.+counting.Given as goal

abbrev pub decreases-size_to_order : goal.decreases-size_to_order
decreases-size_to_order l = 2 * l.order + 1

abbrev pub decreases-simpler_half : goal.decreases-simpler_half
decreases-simpler_half l = 2 * l.order

abbrev pub invariant-size_to_order-loop-formula : goal.invariant-size_to_order-loop-formula
invariant-size_to_order-loop-formula l = IsCountedTo l.self l.formula l.counted

abbrev pub decreases-size_to_order-loop-formula : goal.decreases-size_to_order-loop-formula
decreases-size_to_order-loop-formula l = node_count l.formula

abbrev pub invariant-simpler_half-loop-lower : goal.invariant-simpler_half-loop-lower
invariant-simpler_half-loop-lower l = (l.lower ≤ strahler_order l.left) × (l.lower ≤ strahler_order l.right)
