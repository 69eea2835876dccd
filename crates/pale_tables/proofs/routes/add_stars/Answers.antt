use Rattle.std.proofs.Common.{◌+◌, drop, sym, ap, ◌∙◌}
use Rattle.store_core.specs.declared.kind.Route.TheVariants as route
use Rattle.pale_tables.specs.Routes.{starred}
use Rattle.pale_tables.proofs.RouteLemmas.{star-next}
use Rattle.pale_tables.proofs.routes.add_stars.Goals as goal

pub loop-star-preserved : goal.loop-star-preserved
loop-star-preserved c =
    ap (λ r. starred (route.Star r) (drop (c.loop-star._star-index + 1) c.args.stars.now)) c.in_ok-new.ensures
    ∙ sym (star-next c.loop-star.route c.args.stars.now c.loop-star._star-index c.loop-star-test.true) ∙ c.loop-star.invariant
