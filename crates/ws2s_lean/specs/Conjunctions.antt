-- Conjunctions by numbers of formulas: what is satisfied with what.
use Rattle.std.specs.Prelude.{◌<◌, ◌↔◌, List, [], ◌∷◌, ◌++◌, length, All}
use Rattle.gta_theory.specs.Assignments.{Assignment, IsFinite}
use Rattle.ws2s_core.specs.declared.formula.Formula.{Formula}
use Rattle.ws2s_core.specs.declared.node.FormulaId.{FormulaId}
use Rattle.ws2s_core.specs.Nodes.{formula_at}
use Rattle.ws2s_core.specs.Satisfaction.{Same, WSat}
use Rattle.ws2s_lean.specs.declared.chain.Chain.{Chain}
use Rattle.ws2s_lean.specs.declared.fold.Fold.{Fold}
use Rattle.ws2s_lean.specs.declared.leaned.Leaning.{Leaning}

-- the number is that of a formula
abbrev pub IsThere : List Formula → FormulaId → Type 0
IsThere formulas id = id.0 < length formulas

-- the formula of the number
abbrev pub formula_of : List Formula → FormulaId → Formula
formula_of formulas id = formula_at formulas id.0

-- the assignment satisfies each of the formulas
abbrev pub SatisfiesEach : List Formula → List FormulaId → Assignment → Type 0
SatisfiesEach formulas ids a = All (λ id. WSat (formula_of formulas id) a) ids

-- the numbers are those of formulas, and exactly what satisfies each of these satisfies the formula
pub record IsConjunction (formulas : List Formula) (f : Formula) (ids : List FormulaId) : Type 0 where
  pub there : All (IsThere formulas) ids
  pub exactly : (a : Assignment) → IsFinite a → WSat f a ↔ SatisfiesEach formulas ids a

-- the conjuncts of a chain, and what stands after them
abbrev pub members : Chain → List FormulaId
members chain = chain.conjuncts.items ++ chain.last ∷ []

-- both numbers are those of formulas, which the same assignments satisfy
pub record IsLeaned (formulas : List Formula) (from to : FormulaId) : Type 0 where
  pub from_there : IsThere formulas from
  pub to_there : IsThere formulas to
  pub same : Same (formula_of formulas from) (formula_of formulas to)

abbrev pub AreLeaned : List Formula → List Leaning → Type 0
AreLeaned formulas made = All (λ l. IsLeaned formulas l.from l.to) made

-- the whole is the conjunction of what was folded
pub record IsFold (formulas : List Formula) (fold : Fold) : Type 0 where
  pub whole_there : IsThere formulas fold.whole
  pub conjunction : IsConjunction formulas (formula_of formulas fold.whole) fold.conjuncts.items

-- exactly what satisfies the first formula and each of those of the numbers satisfies the second one
pub record IsFolded (formulas : List Formula) (f : Formula) (ids : List FormulaId) (g : Formula) : Type 0 where
  pub exactly : (a : Assignment) → IsFinite a → WSat g a ↔ (WSat f a × SatisfiesEach formulas ids a)
