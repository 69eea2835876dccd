use Rattle.std.proofs.Common.{◌≡◌, true, false, List, IfOk, subst}
use Rattle.store_core.specs.declared.ids.VarId.{VarId}
use Rattle.store_claims.specs.Formulas.{on_part}
use Rattle.store_claims.proofs.formulas.formula_of.Goals as goal

pub returns-in-Part : goal.returns-in-Part
returns-in-Part c = rw c.in-Part.is
    (subst (λ (roots : List VarId). IfOk c.on_part.result (λ formula. formula
    ≡ on_part c.args.l.now.types c.args.l.now.vars roots true c.args.claim.now.assertion)) c.as_slice.ensures c.on_part.ensures)

pub returns-in-Rest : goal.returns-in-Rest
returns-in-Rest c = rw c.in-Rest.is
    (subst (λ (roots : List VarId). IfOk c.on_part-in-Rest.result (λ formula. formula
    ≡ on_part c.args.l.now.types c.args.l.now.vars roots false c.args.claim.now.assertion)) c.as_slice-in-Rest.ensures c.on_part-in-Rest.ensures)
