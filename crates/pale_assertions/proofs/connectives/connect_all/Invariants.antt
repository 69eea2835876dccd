use Rattle.std.proofs.Common.{◌≡◌}
use Rattle.pale_vocabulary.specs.Connectives.{chained}
use Rattle.pale_assertions.proofs.connectives.connect_all.Given as goal

abbrev pub invariant-loop-next : goal.invariant-loop-next
invariant-loop-next l = l.made ≡ chained l.connective l.fn.first l.yielded
