use Rattle.std.proofs.Common.{◌≡◌, map, reverse, take}
use Rattle.store_logic.specs.Sizes.{node_count}
use Rattle.store_logic.specs.Expansion.{expanded_bodies}
use Rattle.store_logic.specs.ExpandingSizes.{capped}
use Rattle.store_expand.proofs.size.body_sizes.Given as goal

-- the sizes of the bodies so far
abbrev pub invariant-loop-pred : goal.invariant-loop-pred
invariant-loop-pred l = l.sizes.items ≡ map (λ b. capped (node_count b)) (expanded_bodies (reverse (take l.pred-index l.preds)))
