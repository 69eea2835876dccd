-- The plan of an atom of two tracks.
use Rattle.std.proofs.Common.{◌≡◌, ◌≢◌, Bool, true, false, eqb, refl, sym, subst, eqb-true}
use Rattle.std.proofs.lemmas.Bool.{eqb-false}
use Rattle.ws2s_core.specs.declared.track.Track.{Track}
use Rattle.ws2s_core.specs.declared.formula.Formula.{Formula}
use Rattle.gta_atom.specs.declared.known.Form.{Form}
use Rattle.gta_atom.specs.declared.plan.Plan.{Plan}
use Rattle.gta_atom.specs.Plans.{plan, IsPlanOf}

module _ (form : Form) (f : Track → Track → Formula) (apart : (x y : Track) → y.0 ≢ x.0 → IsPlanOf (plan form x y false) (f x y))
    (same : (x y : Track) → y.0 ≡ x.0 → IsPlanOf (plan form x y true) (f x y)) where
  pick : (x y : Track) (b : Bool) → eqb y.0 x.0 ≡ b → IsPlanOf (plan form x y b) (f x y)
  pick x y true e = same x y (eqb-true y.0 x.0 e)
  pick x y false e = apart x y (eqb-false y.0 x.0 e)

  pub IsPlanOf-two : (x y : Track) (p : Plan) → p ≡ plan form x y (eqb y.0 x.0) → IsPlanOf p (f x y)
  IsPlanOf-two x y p is = subst (λ (q : Plan). IsPlanOf q (f x y)) (sym is) (pick x y (eqb y.0 x.0) refl)
