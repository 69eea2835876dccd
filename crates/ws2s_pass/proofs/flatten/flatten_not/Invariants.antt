use Rattle.std.proofs.Common.{◌≡◌, Some, [], ◌∷◌, drop, reverse}
use Rattle.ws2s_pass.specs.Flattening.{flattened, flattened_node}
use Rattle.ws2s_pass.specs.Folding.{stepped_over}
use Rattle.ws2s_pass.proofs.flatten.flatten_not.Given as goal

abbrev pub invariant-loop-symbol : goal.invariant-loop-symbol
invariant-loop-symbol l = stepped_over flattened_node (drop l.symbol-index l.symbol-items) (reverse l.parts.items) ≡ Some (flattened l.formula ∷ [])
