use Rattle.std.proofs.Common.{◌≡◌, Some, [], ◌∷◌, drop, reverse, map}
use Rattle.ws2s_pass.specs.Using.{without_unused, used_node}
use Rattle.ws2s_pass.specs.Folding.{stepped_over}
use Rattle.ws2s_pass.proofs.unused.drop_unused.Given as goal

abbrev pub invariant-loop-symbol : goal.invariant-loop-symbol
invariant-loop-symbol l =
    stepped_over used_node (drop l.symbol-index l.symbol-items) (map (λ part. part.formula) (reverse l.parts.items))
    ≡ Some (without_unused l.formula ∷ [])
