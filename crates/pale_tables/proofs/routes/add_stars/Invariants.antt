use Rattle.std.proofs.Common.{◌≡◌, drop}
use Rattle.pale_tables.specs.Routes.{starred}
use Rattle.pale_tables.proofs.routes.add_stars.Given as goal

abbrev pub invariant-loop-star : goal.invariant-loop-star
invariant-loop-star l = starred l.route (drop l._star-index l.stars) ≡ starred l.fn.round l.stars
