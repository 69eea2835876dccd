use Rattle.std.proofs.Common.{◌≡◌, Some, [], ◌∷◌, drop, reverse}
use Rattle.ws2s_core.specs.Postfix.{run_on}
use Rattle.ws2s_core.proofs.formula.Formula.copy.Given as goal

abbrev pub invariant-loop-symbol : goal.invariant-loop-symbol
invariant-loop-symbol l = run_on (drop l.symbol-index l.symbol-items) (reverse l.parts.items) ≡ Some (l.self ∷ [])
