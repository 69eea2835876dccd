-- Satisfaction, form by form.
use Rattle.std.proofs.Common.{◌≡◌, true, false, IsTrue, ◌↔◌, [], ◌∷◌, ◌++◌, refl, sym, ap, ◌∙◌}
use mathlib.Core.Path.{transport}
use Rattle.gta_theory.specs.Assignments.{Position, PositionSet, Assignment, IsFiniteSet, IsOnly, replace}
use Rattle.ws2s_core.specs.declared.track.Track.{Track}
use Rattle.ws2s_core.specs.declared.formula.Formula.{Formula, roll-Formula}
use Rattle.ws2s_core.specs.declared.formula.Formula.TheVariants.{Sub, Single, Succ0, Succ1, Root, And, Not, Ex2, rolls-Sub}
use Rattle.ws2s_core.specs.declared.formula.Formula.TheVariants.{rolls-Single, rolls-Succ0, rolls-Succ1, rolls-Root, rolls-And}
use Rattle.ws2s_core.specs.declared.formula.Formula.TheVariants.{rolls-Not, rolls-Ex2}
use Rattle.ws2s_core.specs.declared.formula.Formula.TheOpen.{Formula-F}
use Rattle.ws2s_core.specs.declared.formula.Formula.TheFolds.{rec-roll-Formula, map-Formula}
use Rattle.ws2s_core.specs.Satisfaction.{IsSatisfiedNode, WSat}

natural : (Part : Type 0) (whole : Part → Formula) (sat : Formula → Assignment → Type 0) (x : Formula-F Part) →
    IsSatisfiedNode Part whole (λ p. sat (whole p)) x ≡ IsSatisfiedNode Formula (λ f. f) sat (map-Formula Part Formula whole x)
natural Part whole sat (Formula-F.Sub x y) = refl
natural Part whole sat (Formula-F.Single x) = refl
natural Part whole sat (Formula-F.Succ0 x y) = refl
natural Part whole sat (Formula-F.Succ1 x y) = refl
natural Part whole sat (Formula-F.Root x) = refl
natural Part whole sat (Formula-F.And f g) = refl
natural Part whole sat (Formula-F.Not f) = refl
natural Part whole sat (Formula-F.Ex2 t f) = refl

WSat-roll : (x : Formula-F Formula) → WSat (roll-Formula x) ≡ IsSatisfiedNode Formula (λ f. f) WSat x
WSat-roll = rec-roll-Formula (Assignment → Type 0) IsSatisfiedNode natural

-- a path between two claims of assignments, both ways
both_ways : {P Q : Assignment → Type 0} → P ≡ Q → (a : Assignment) → P a ↔ Q a
both_ways e a = (transport (λ i. e i a), transport (λ i. sym e i a))

at_form : (f : Formula) (x : Formula-F Formula) → roll-Formula x ≡ f → (a : Assignment) → WSat f a ↔ IsSatisfiedNode Formula (λ g. g) WSat x a
at_form f x e = both_ways (ap WSat (sym e) ∙ WSat-roll x)

pub WSat-Sub : (x y : Track) (a : Assignment) → WSat (Sub x y) a ↔ ((p : Position) → IsTrue (a x.0 p) → IsTrue (a y.0 p))
WSat-Sub x y = at_form (Sub x y) (Formula-F.Sub x y) (rolls-Sub x y)

pub WSat-Single : (x : Track) (a : Assignment) → WSat (Single x) a ↔ ((u : Position) × IsOnly (a x.0) u)
WSat-Single x = at_form (Single x) (Formula-F.Single x) (rolls-Single x)

pub WSat-Succ0 : (x y : Track) (a : Assignment) →
    WSat (Succ0 x y) a ↔ ((u : Position) × IsOnly (a x.0) u × IsOnly (a y.0) (u ++ false ∷ []))
WSat-Succ0 x y = at_form (Succ0 x y) (Formula-F.Succ0 x y) (rolls-Succ0 x y)

pub WSat-Succ1 : (x y : Track) (a : Assignment) →
    WSat (Succ1 x y) a ↔ ((u : Position) × IsOnly (a x.0) u × IsOnly (a y.0) (u ++ true ∷ []))
WSat-Succ1 x y = at_form (Succ1 x y) (Formula-F.Succ1 x y) (rolls-Succ1 x y)

pub WSat-Root : (x : Track) (a : Assignment) → WSat (Root x) a ↔ IsOnly (a x.0) []
WSat-Root x = at_form (Root x) (Formula-F.Root x) (rolls-Root x)

pub WSat-And : (f g : Formula) (a : Assignment) → WSat (And f g) a ↔ (WSat f a × WSat g a)
WSat-And f g = at_form (And f g) (Formula-F.And f g) (rolls-And f g)

pub WSat-Not : (f : Formula) (a : Assignment) → WSat (Not f) a ↔ (WSat f a → ⊥)
WSat-Not f = at_form (Not f) (Formula-F.Not f) (rolls-Not f)

pub WSat-Ex2 : (t : Track) (f : Formula) (a : Assignment) →
    WSat (Ex2 t f) a ↔ ((set : PositionSet) × IsFiniteSet set × WSat f (replace a t.0 set))
WSat-Ex2 t f = at_form (Ex2 t f) (Formula-F.Ex2 t f) (rolls-Ex2 t f)
