use Rattle.std.proofs.Common.{◌≡◌, fold}
use Rattle.ws2s_core.specs.declared.formula.Formula.TheVariants.{And}
use Rattle.ws2s_forms.proofs.lists.and_all.Given as goal

abbrev pub invariant-loop-formula : goal.invariant-loop-formula
invariant-loop-formula l = l.whole ≡ fold And l.fn.first l.yielded
