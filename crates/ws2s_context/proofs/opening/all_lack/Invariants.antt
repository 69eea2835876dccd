use Rattle.std.proofs.Common.{List, length}
use Rattle.std.specs.List.{AllByRecursion}
use Rattle.ws2s_core.specs.declared.formula.Formula.{Formula}
use Rattle.ws2s_core.specs.Tracks.{IsFree}
use Rattle.ws2s_facts.specs.Conjuncts.{formula_of}
use Rattle.ws2s_facts.specs.Facts.{AreFacts}
use Rattle.ws2s_context.proofs.opening.all_lack.Given as goal

abbrev pub invariant-loop-conjunct : goal.invariant-loop-conjunct
invariant-loop-conjunct l = (formulas : List Formula) → AreFacts formulas l.facts.facts.items →
    AllByRecursion (λ c. IsFree l.t.0 (formula_of formulas c) → ⊥) l.rest →
    AllByRecursion (λ c. IsFree l.t.0 (formula_of formulas c) → ⊥) l.conjuncts

abbrev pub decreases-loop-conjunct : goal.decreases-loop-conjunct
decreases-loop-conjunct l = length l.rest
