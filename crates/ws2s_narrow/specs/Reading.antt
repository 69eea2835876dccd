-- Steps: the forms of a formula, each after its parts, with what quantifiers must know of them.
use Rattle.std.specs.Prelude.{◌≡◌, List, [], ◌∷◌, Option, Some, None}
use Rattle.ws2s_core.specs.declared.formula.Formula.{Formula}
use Rattle.ws2s_core.specs.declared.formula.Formula.TheVariants.{Sub, Single, Succ0, Succ1, Root, And, Not, Ex2}
use Rattle.ws2s_core.specs.declared.postfix.Symbol.{Symbol}
use Rattle.ws2s_core.specs.Tracks.{is_free}
use Rattle.ws2s_narrow.specs.declared.steps.Step.{Step}
use Rattle.ws2s_narrow.specs.Pending.{Tells}

-- the atom that a symbol is
abbrev pub atom_of : Symbol → Option Formula
atom_of (Symbol.Sub x y) = Some (Sub x y)
atom_of (Symbol.Single x) = Some (Single x)
atom_of (Symbol.Succ0 x y) = Some (Succ0 x y)
atom_of (Symbol.Succ1 x y) = Some (Succ1 x y)
atom_of (Symbol.Root x) = Some (Root x)
atom_of symbol = None

-- the steps, the last first, lead to the formulas, the last first
abbrev pub LeadTo : List Step → List Formula → Type 0
LeadTo [] formulas = formulas ≡ []
LeadTo (Step.Atom symbol ∷ steps) formulas =
    (f : Formula) × (rest : List Formula) × (formulas ≡ f ∷ rest) × (atom_of symbol ≡ Some f) × LeadTo steps rest
LeadTo (Step.And shares ∷ steps) formulas =
    (f : Formula) × (g : Formula) × (rest : List Formula) × (formulas ≡ And f g ∷ rest) × Tells shares (λ t. is_free t f) (λ t. is_free t g)
    × LeadTo steps (g ∷ f ∷ rest)
LeadTo (Step.Not ∷ steps) formulas = (f : Formula) × (rest : List Formula) × (formulas ≡ Not f ∷ rest) × LeadTo steps (f ∷ rest)
LeadTo (Step.Ex2 next ∷ steps) formulas = (f : Formula) × (rest : List Formula) × (formulas ≡ Ex2 next.track f ∷ rest)
    × (next.used ≡ is_free next.track.0 f) × LeadTo steps (f ∷ rest)
