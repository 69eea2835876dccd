use Rattle.std.proofs.Common.{arith}
use Rattle.std.proofs.lemmas.List.{at_drop_more}
use Rattle.pale_text.specs.Places.{nowhere}
use Rattle.pale_print.specs.RouteTokens.{stars}
use Rattle.pale_print.proofs.Written.{so_ends}
use Rattle.pale_print.proofs.routes.push_stars.Goals as goal

-- the star is that of the first place that is left
pub loop-star-preserved : goal.loop-star-preserved
loop-star-preserved c = λ after whole is.
    c.loop-star.invariant after whole
    (so_ends _ _
    (at_drop_more (λ left. stars left after) c.args.places.now c.loop-star._star-index nowhere (omega (arith, c.loop-star-test.true)))
    (c.push_mark.ensures _ _ is))
