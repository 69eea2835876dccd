use Rattle.std.proofs.Common.{List, All, length}
use Rattle.ws2s_core.specs.declared.formula.Formula.{Formula}
use Rattle.ws2s_facts.specs.Conjuncts.{IsThere}
use Rattle.ws2s_facts.specs.Facts.{AreFacts}
use Rattle.ws2s_plan.specs.Steps.{IsParted}
use Rattle.ws2s_plan.proofs.eliminating.parts_of.Given as goal

abbrev pub invariant-loop-unit : goal.invariant-loop-unit
invariant-loop-unit l = (formulas : List Formula) → AreFacts formulas l.facts.facts.items → All (IsThere formulas) l.units →
    IsParted formulas l.t l.units l.rest l.parted

abbrev pub decreases-loop-unit : goal.decreases-loop-unit
decreases-loop-unit l = length l.rest
