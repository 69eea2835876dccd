use Rattle.cert_parts.specs.Leading.{AreNumbered}
use Rattle.cert_parts.proofs.table.numbers.Given as goal

abbrev pub invariant-loop-number : goal.invariant-loop-number
invariant-loop-number l = AreNumbered l.number l.numbers
