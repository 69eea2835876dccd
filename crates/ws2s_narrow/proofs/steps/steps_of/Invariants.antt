use Rattle.std.proofs.Common.{◌≡◌, Some, [], ◌∷◌, drop, reverse, map}
use Rattle.ws2s_core.specs.Postfix.{run_on}
use Rattle.ws2s_narrow.specs.declared.sharing.Read.{Read}
use Rattle.ws2s_narrow.specs.Reading.{LeadTo}
use Rattle.ws2s_narrow.proofs.steps.steps_of.Given as goal

abbrev pub invariant-loop-symbol : goal.invariant-loop-symbol
invariant-loop-symbol l = record {
  run : run_on (drop l.symbol-index l.symbol-items) (map (λ (read : Read). read.part.formula) (reverse l.parts.items)) ≡ Some (l.formula ∷ []);
  leads : LeadTo (reverse l.steps.items) (map (λ (read : Read). read.part.formula) (reverse l.parts.items));
}
