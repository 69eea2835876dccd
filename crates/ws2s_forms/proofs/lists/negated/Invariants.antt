use Rattle.std.proofs.Common.{◌≡◌, map}
use Rattle.ws2s_core.specs.declared.formula.Formula.TheVariants.{Not}
use Rattle.ws2s_forms.proofs.lists.negated.Given as goal

abbrev pub invariant-loop-formula : goal.invariant-loop-formula
invariant-loop-formula l = l.negations.items ≡ map Not l.yielded
