use Rattle.std.proofs.Common.{◌≡◌}
use Rattle.pale_tables.specs.Routes.{chained}
use Rattle.pale_tables.proofs.routes.join_all.Given as goal

abbrev pub invariant-loop-next : goal.invariant-loop-next
invariant-loop-next l = l.route ≡ chained l.chain l.fn.first l.yielded
