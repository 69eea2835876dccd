-- Formulas that are gone through from their parts up, each form after its parts.
use Rattle.std.specs.Prelude.{List, [], ◌∷◌, Option, Some, option_map, option_and_then}
use Rattle.ws2s_core.specs.declared.formula.Formula.TheOpen.{Formula-F}
use Rattle.ws2s_core.specs.declared.postfix.Symbol.{Symbol}
use Rattle.ws2s_core.specs.Postfix.{taken}

-- the values of the parts, the last first, after what the step makes of those that a symbol takes came in their place
abbrev pub stepped : {Value : Type 0} → (Formula-F Value → Value) → Symbol → List Value → Option (List Value)
stepped step symbol parts = option_map (λ found. step found.0 ∷ found.1) (taken symbol parts)

-- the values after all symbols
abbrev pub stepped_over : {Value : Type 0} → (Formula-F Value → Value) → List Symbol → List Value → Option (List Value)
stepped_over step [] parts = Some parts
stepped_over step (symbol ∷ symbols) parts = option_and_then (λ after. stepped_over step symbols after) (stepped step symbol parts)
