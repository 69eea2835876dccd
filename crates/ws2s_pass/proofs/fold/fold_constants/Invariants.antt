use Rattle.std.proofs.Common.{◌≡◌, Some, [], ◌∷◌, drop, reverse}
use Rattle.ws2s_pass.specs.Constants.{folded, folded_node}
use Rattle.ws2s_pass.specs.Folding.{stepped_over}
use Rattle.ws2s_pass.proofs.fold.fold_constants.Given as goal

abbrev pub invariant-loop-symbol : goal.invariant-loop-symbol
invariant-loop-symbol l = stepped_over folded_node (drop l.symbol-index l.symbol-items) (reverse l.parts.items) ≡ Some (folded l.formula ∷ [])
