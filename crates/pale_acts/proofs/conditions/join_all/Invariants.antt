use Rattle.std.proofs.Common.{◌≡◌}
use Rattle.pale_acts.specs.Conditions.{chained}
use Rattle.pale_acts.proofs.conditions.join_all.Given as goal

abbrev pub invariant-loop-next : goal.invariant-loop-next
invariant-loop-next l = l.made ≡ chained l.junction l.fn.first l.yielded
