-- The conjuncts of a formula.
use Rattle.std.specs.Prelude.{◌≡◌, List, [], ◌∷◌, fold, map}
use Rattle.std.specs.Borrow.{Bor}
use Rattle.ws2s_core.specs.declared.formula.Formula.{Formula}
use Rattle.ws2s_core.specs.declared.formula.Formula.TheVariants.{And}

-- what is lent
abbrev pub lent : List (Bor Formula) → List Formula
lent = map (λ f. f.now)

-- joined from the left they are the formula
abbrev pub IsJoined : Formula → List Formula → Type 0
IsJoined formula [] = ⊥
IsJoined formula (f ∷ fs) = fold And f fs ≡ formula

abbrev pub AreConjunctsOf : Formula → List (Bor Formula) → Type 0
AreConjunctsOf formula conjuncts = IsJoined formula (lent conjuncts)
