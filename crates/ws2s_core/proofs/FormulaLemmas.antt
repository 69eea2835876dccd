-- Induction over formulas.
use Rattle.std.proofs.Common.{◌≡◌, sym, ap, ◌∙◌, subst}
use Rattle.ws2s_core.specs.declared.track.Track.{Track}
use Rattle.ws2s_core.specs.declared.formula.Formula.{Formula, roll-Formula}
use Rattle.ws2s_core.specs.declared.formula.Formula.TheVariants.{Sub, Single, Succ0, Succ1, Root, And, Not, Ex2, rolls-Sub}
use Rattle.ws2s_core.specs.declared.formula.Formula.TheVariants.{rolls-Single, rolls-Succ0, rolls-Succ1, rolls-Root, rolls-And}
use Rattle.ws2s_core.specs.declared.formula.Formula.TheVariants.{rolls-Not, rolls-Ex2}
use Rattle.ws2s_core.specs.declared.formula.Formula.TheOpen.{Formula-F}
use Rattle.ws2s_core.specs.declared.formula.Formula.TheFolds.{ind-Formula, map-Formula, fold-Formula, fold-roll-Formula}

-- what each form has from its parts
pub record IsHereditary (P : Formula → Type 0) : Type 0 where
  pub of_Sub : (x y : Track) → P (Sub x y)
  pub of_Single : (x : Track) → P (Single x)
  pub of_Succ0 : (x y : Track) → P (Succ0 x y)
  pub of_Succ1 : (x y : Track) → P (Succ1 x y)
  pub of_Root : (x : Track) → P (Root x)
  pub of_And : (f g : Formula) → P f → P g → P (And f g)
  pub of_Not : (f : Formula) → P f → P (Not f)
  pub of_Ex2 : (t : Track) (f : Formula) → P f → P (Ex2 t f)

-- every formula has
pub formula-induction : (P : Formula → Type 0) → IsHereditary P → (f : Formula) → P f
formula-induction P h = ind-Formula P (λ x y e. subst (λ (d : Formula-F Formula). P (roll-Formula d)) e (made y))
  where
    made : (y : Formula-F ((f : Formula) × P f)) → P (roll-Formula (map-Formula ((f : Formula) × P f) Formula (λ e. e.0) y))
    made (Formula-F.Sub x y) = subst P (sym (rolls-Sub x y)) (h.of_Sub x y)
    made (Formula-F.Single x) = subst P (sym (rolls-Single x)) (h.of_Single x)
    made (Formula-F.Succ0 x y) = subst P (sym (rolls-Succ0 x y)) (h.of_Succ0 x y)
    made (Formula-F.Succ1 x y) = subst P (sym (rolls-Succ1 x y)) (h.of_Succ1 x y)
    made (Formula-F.Root x) = subst P (sym (rolls-Root x)) (h.of_Root x)
    made (Formula-F.And u v) = subst P (sym (rolls-And u.0 v.0)) (h.of_And u.0 v.0 u.1 v.1)
    made (Formula-F.Not u) = subst P (sym (rolls-Not u.0)) (h.of_Not u.0 u.1)
    made (Formula-F.Ex2 t u) = subst P (sym (rolls-Ex2 t u.0)) (h.of_Ex2 t u.0 u.1)

-- a fold at each form
module _ (A : Type 0) (step : Formula-F A → A) where
  fold-at : (f : Formula) (x : Formula-F Formula) → roll-Formula x ≡ f → fold-Formula A step f ≡ step (map-Formula Formula A (fold-Formula A step) x)
  fold-at f x e = ap (fold-Formula A step) (sym e) ∙ fold-roll-Formula A step x

  pub fold-Sub : (x y : Track) → fold-Formula A step (Sub x y) ≡ step (Formula-F.Sub x y)
  fold-Sub x y = fold-at (Sub x y) (Formula-F.Sub x y) (rolls-Sub x y)

  pub fold-Single : (x : Track) → fold-Formula A step (Single x) ≡ step (Formula-F.Single x)
  fold-Single x = fold-at (Single x) (Formula-F.Single x) (rolls-Single x)

  pub fold-Succ0 : (x y : Track) → fold-Formula A step (Succ0 x y) ≡ step (Formula-F.Succ0 x y)
  fold-Succ0 x y = fold-at (Succ0 x y) (Formula-F.Succ0 x y) (rolls-Succ0 x y)

  pub fold-Succ1 : (x y : Track) → fold-Formula A step (Succ1 x y) ≡ step (Formula-F.Succ1 x y)
  fold-Succ1 x y = fold-at (Succ1 x y) (Formula-F.Succ1 x y) (rolls-Succ1 x y)

  pub fold-Root : (x : Track) → fold-Formula A step (Root x) ≡ step (Formula-F.Root x)
  fold-Root x = fold-at (Root x) (Formula-F.Root x) (rolls-Root x)

  pub fold-And : (f g : Formula) → fold-Formula A step (And f g) ≡ step (Formula-F.And (fold-Formula A step f) (fold-Formula A step g))
  fold-And f g = fold-at (And f g) (Formula-F.And f g) (rolls-And f g)

  pub fold-Not : (f : Formula) → fold-Formula A step (Not f) ≡ step (Formula-F.Not (fold-Formula A step f))
  fold-Not f = fold-at (Not f) (Formula-F.Not f) (rolls-Not f)

  pub fold-Ex2 : (t : Track) (f : Formula) → fold-Formula A step (Ex2 t f) ≡ step (Formula-F.Ex2 t (fold-Formula A step f))
  fold-Ex2 t f = fold-at (Ex2 t f) (Formula-F.Ex2 t f) (rolls-Ex2 t f)
