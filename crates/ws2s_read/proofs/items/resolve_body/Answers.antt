use Rattle.std.proofs.Common.{◌∙◌}
use Rattle.ws2s_read.proofs.ResolvingLemmas.{parameters_bound-front, front-again}
use Rattle.ws2s_read.proofs.items.resolve_body.Goals as goal

pub returns-clause-names_stay : goal.returns-clause-names_stay
returns-clause-names_stay c =
    c.close.ensures
    ∙ front-again c.args.names.now _ _ _ (parameters_bound-front _ _ c.args.names.now _ c.in_ok-bind_parameters.ensures.names)
    c.in_ok-formula.ensures.names_stay c.len-outer.ensures
