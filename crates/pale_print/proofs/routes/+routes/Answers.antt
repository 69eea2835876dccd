use Rattle.pale_print.specs.Tightness.{route_tightness}
use Rattle.pale_print.proofs.RouteLemmas.{at-Then, at-Or}
use Rattle.pale_print.proofs.Written.{so_ends}
use Rattle.pale_print.proofs.routes.+routes.Goals as goal

pub push_route-returns-in-Then : goal.push_route-returns-in-Then
push_route-returns-in-Then t c = λ after whole is.
    so_ends _ _ (λ i. at-Then _ _ _ _ _ (route_tightness c.args.asked) _ c.in-Then.is c.get.ensures c.as_slice.ensures
    c.is_grouped_at-needed.ensures i after)
    (c.open_group.ensures _ _ (c.push_route.ensures _ _ (c.push_operands.ensures _ _ (c.close_group.ensures _ _ is))))

pub push_route-returns-in-Or : goal.push_route-returns-in-Or
push_route-returns-in-Or t c = λ after whole is.
    so_ends _ _ (λ i. at-Or _ _ _ _ _ (route_tightness c.args.asked) _ c.in-Or.is c.get-in-Or.ensures c.as_slice-in-Or.ensures
    c.is_grouped_at-needed-in-Or.ensures i after)
    (c.open_group-in-Or.ensures _ _ (c.push_route-in-Or.ensures _ _ (c.push_operands-in-Or.ensures _ _ (c.close_group-in-Or.ensures _ _ is))))
