-- A formula in front of a chain of conjuncts, which are conjoined to it one after the other.
use Rattle.std.specs.Prelude.{◌↔◌, List, [], ◌∷◌, ◌++◌}
use Rattle.gta_theory.specs.Assignments.{Assignment, IsFinite}
use Rattle.ws2s_core.specs.declared.formula.Formula.{Formula}
use Rattle.ws2s_core.specs.declared.node.FormulaId.{FormulaId}
use Rattle.ws2s_core.specs.Satisfaction.{WSat}
use Rattle.ws2s_lean.specs.Conjunctions.{SatisfiesEach}
use Rattle.ws2s_context.specs.declared.fronting.Chain.{Chain}

-- all conjuncts of a chain, the first one at the end
abbrev pub links : Chain → List FormulaId
links chain = chain.others.items ++ chain.first ∷ []

-- what satisfies the formula that was made and each of the conjuncts that are left is what satisfies the known one and each conjunct
pub record IsFronting (formulas : List Formula) (known : Formula) (ids : List FormulaId) (made : Formula) (left : List FormulaId) : Type 0 where
  pub exactly : (a : Assignment) → IsFinite a → (WSat made a × SatisfiesEach formulas left a) ↔ (WSat known a × SatisfiesEach formulas ids a)
