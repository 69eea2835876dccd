use Rattle.std.proofs.Common.{◌↔◌, ◌∙◌, sym, ap, subst, Some, IsTrue}
use Rattle.routing_expr.specs.Judging.{IsOnly}
use Rattle.routing_expr.proofs.JudgeLemmas.{wrong_from, right_from}
use Rattle.routing_expr.proofs.wrong_field.is_wrong_field.Goals as goal

pub returns-clause-wrong : goal.returns-clause-wrong
returns-clause-wrong c =
    wrong_from c.args.search.now.types.now c.args.search.now.store.now c.args.c c.args.f c.in-Some-Pointer.target
    c.in-Some-Pointer.route c.in_ok-destinations.destinations
    (sym c.in-Some-Pointer.ensures ∙ ap (λ k. Some k) c.in-Some-Pointer.field-0-is) c.in_ok-destinations.ensures
    c.in-Some.value.now c.is_only.result (sym c.in-Some.ensures)
    (subst (λ cells. IsTrue c.is_only.result ↔ IsOnly cells c.in-Some.value.now) c.as_slice.ensures.value c.is_only.ensures)

pub returns-clause-right : goal.returns-clause-right
returns-clause-right c =
    right_from c.args.search.now.types.now c.args.search.now.store.now c.args.c c.args.f c.in-Some-Pointer.target
    c.in-Some-Pointer.route c.in_ok-destinations.destinations
    (sym c.in-Some-Pointer.ensures ∙ ap (λ k. Some k) c.in-Some-Pointer.field-0-is) c.in_ok-destinations.ensures
    c.in-Some.value.now c.is_only.result (sym c.in-Some.ensures)
    (subst (λ cells. IsTrue c.is_only.result ↔ IsOnly cells c.in-Some.value.now) c.as_slice.ensures.value c.is_only.ensures)
