use Rattle.std.proofs.Common.{◌≡◌, OnOk, subst}
use Rattle.symbolic_steps.specs.declared.walker.Walker.{Walker}
use Rattle.pred_transform.proofs.ClaimLemmas.{claims-found}
use Rattle.pred_transform.proofs.cuts.check_claims.Goals as goal

pub returns : goal.returns
returns c =
    subst (λ (w : Walker). OnOk c.find.result (c.find.new.w ≡ w))
    (claims-found c.args.l.now.types c.args.l.now.vars c.args.part c.args.asserts.now c.args.w.now c.passes.new.w c.claims.new.view
    c.in_ok-passes.field-0 c.args.reached.now c.in_ok-holds.holds c.in_ok-not.field-0 c.in_ok-parts.parts.items c.in_ok-passes.ensures.0 c.if-not-branch.false
    c.in_ok-passes.ensures.1 c.in_ok-parts.ensures.kept c.in_ok-parts.ensures.value c.in_ok-holds.ensures c.in_ok-not.ensures)
    c.find.ensures
