-- When an assignment satisfies a formula. (WS2S: Thatcher and Wright 1968; Doner 1970. The core forms are those of
-- MONA: Klarlund and Møller, MONA Version 1.4 User Manual.)
use Rattle.std.specs.Prelude.{true, false, IsTrue, ◌↔◌, [], ◌∷◌, ◌++◌}
use Rattle.gta_theory.specs.Assignments.{Position, PositionSet, Assignment, IsFiniteSet, IsFinite, IsOnly, replace}
use Rattle.ws2s_core.specs.declared.formula.Formula.{Formula}
use Rattle.ws2s_core.specs.declared.formula.Formula.TheOpen.{Formula-F}
use Rattle.ws2s_core.specs.declared.formula.Formula.TheFolds.{rec-Formula}

-- one form is satisfied, by when its parts are
abbrev pub IsSatisfiedNode : (Part : Type 0) → (Part → Formula) → (Part → Assignment → Type 0) → Formula-F Part →
    Assignment → Type 0
IsSatisfiedNode Part whole sat (Formula-F.Sub x y) a = (p : Position) → IsTrue (a x.0 p) → IsTrue (a y.0 p)
IsSatisfiedNode Part whole sat (Formula-F.Single x) a = (u : Position) × IsOnly (a x.0) u
IsSatisfiedNode Part whole sat (Formula-F.Succ0 x y) a =
    (u : Position) × IsOnly (a x.0) u × IsOnly (a y.0) (u ++ false ∷ [])
IsSatisfiedNode Part whole sat (Formula-F.Succ1 x y) a =
    (u : Position) × IsOnly (a x.0) u × IsOnly (a y.0) (u ++ true ∷ [])
IsSatisfiedNode Part whole sat (Formula-F.Root x) a = IsOnly (a x.0) []
IsSatisfiedNode Part whole sat (Formula-F.And f g) a = sat f a × sat g a
IsSatisfiedNode Part whole sat (Formula-F.Not f) a = sat f a → ⊥
IsSatisfiedNode Part whole sat (Formula-F.Ex2 t f) a =
    (set : PositionSet) × IsFiniteSet set × sat f (replace a t.0 set)

-- the assignment satisfies the formula
abbrev pub WSat : Formula → Assignment → Type 0
WSat = rec-Formula (Assignment → Type 0) IsSatisfiedNode

-- the two formulas have the same satisfying assignments
pub record Same (f g : Formula) : Type 0 where
  pub satisfied : (a : Assignment) → IsFinite a → WSat f a ↔ WSat g a
