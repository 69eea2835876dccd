use Rattle.std.proofs.Common.{◌-◌, refl, arith}
use Rattle.graph_view.specs.Sights.{sight_of}
use Rattle.claim_formula.proofs.LeadsLemmas.{leads_step}
use Rattle.claim_formula.proofs.terms.leads_to.Goals as goal

pub loop-field-preserved : goal.loop-field-preserved
loop-field-preserved c = (
  leads_step c.args.l.now.types (sight_of c.args.l.now.vars c.args.view.now) c.args.value c.args.fields.now c.loop-field.field-index _ _
      c.loop-field.formula c.in_ok-formula-2.formula c.args.next c.loop-field.left (c.loop-field.left - 1) c.args.cell c.in_ok-later-2.field-0 c.in_ok-to.to
      refl (omega arith) (omega arith) c.in_ok-later-2.ensures c.in_ok-to.ensures c.loop-field.invariant.0 c.in_ok-formula-2.ensures,
  omega arith,
)
