use Rattle.std.proofs.Common.{sym, ◌∙◌}
use Rattle.routing_expr.proofs.StepLemmas.{named}
use Rattle.routing_expr.proofs.steps.field_named.Goals as goal

pub returns : goal.returns
returns c f =
    let found = named c.args.types.now c.args.ty c.args.name.now c.types.ensures.inside f in
    (λ e. found.0 (sym c.find_field.ensures ∙ e), λ h. c.find_field.ensures ∙ found.1 h)
