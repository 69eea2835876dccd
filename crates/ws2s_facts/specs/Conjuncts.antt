-- Contexts as numbers of formulas: what is implied by what, in assignments of finite sets.
use Rattle.std.specs.Prelude.{ℕ, ◌<◌, List, [], ◌∷◌, ◌⊎◌, length, All, Contains, Option, Some, None, map}
use Rattle.gta_theory.specs.Assignments.{Assignment, IsFinite}
use Rattle.ws2s_core.specs.declared.formula.Formula.{Formula}
use Rattle.ws2s_core.specs.declared.formula.Formula.TheVariants.{And}
use Rattle.ws2s_core.specs.declared.node.FormulaId.{FormulaId}
use Rattle.ws2s_core.specs.Nodes.{formula_at}
use Rattle.ws2s_core.specs.Tracks.{IsFree}
use Rattle.ws2s_theory.specs.Contexts.{SatisfiesAll}

-- the number is that of a formula
abbrev pub IsThere : List Formula → FormulaId → Type 0
IsThere formulas id = id.0 < length formulas

-- the formula of the number
abbrev pub formula_of : List Formula → FormulaId → Formula
formula_of formulas id = formula_at formulas id.0

-- what a context has: nothing, or one conjunction
abbrev pub context_at : List Formula → Option FormulaId → List Formula
context_at formulas None = []
context_at formulas (Some id) = formula_of formulas id ∷ []

abbrev pub IsContext : List Formula → Option FormulaId → Type 0
IsContext formulas None = Unit {0}
IsContext formulas (Some id) = IsThere formulas id

-- what satisfies the context satisfies the other one
pub record Implies (context inner : List Formula) : Type 0 where
  pub satisfied : (a : Assignment) → IsFinite a → SatisfiesAll context a → SatisfiesAll inner a

-- a formula's number, and what satisfies the context satisfies the formula
pub record IsConjunct (formulas context : List Formula) (id : FormulaId) : Type 0 where
  pub there : IsThere formulas id
  pub implied : Implies context (formula_of formulas id ∷ [])

-- such a conjunct that hasn't the track free
pub record IsUnbound (formulas context : List Formula) (t : ℕ) (id : FormulaId) : Type 0 where
  pub conjunct : IsConjunct formulas context id
  pub unbound : IsFree t (formula_of formulas id) → ⊥

-- a conjunct after what there is
abbrev pub after : List Formula → Formula → List Formula
after [] f = f ∷ []
after (g ∷ rest) f = And g f ∷ []

-- the conjunction of what there is and of the formulas, from the left
abbrev pub joined : List Formula → List Formula → List Formula
joined first [] = first
joined first (f ∷ formulas) = joined (after first f) formulas

-- the formulas of the numbers
abbrev pub formulas_at : List Formula → List FormulaId → List Formula
formulas_at formulas ids = map (formula_of formulas) ids

-- each number of the new list was in the old one, or is among those that were to choose from
abbrev pub IsAmong : List FormulaId → List FormulaId → List FormulaId → Type 0
IsAmong old others new = (id : FormulaId) → Contains new id → Contains old id ⊎ Contains others id

-- conjuncts that wait to be looked at, and those that were found
pub record AreConjuncts (formulas context : List Formula) (waiting found : List FormulaId) : Type 0 where
  pub in_waiting : All (IsConjunct formulas context) waiting
  pub in_found : All (IsConjunct formulas context) found
