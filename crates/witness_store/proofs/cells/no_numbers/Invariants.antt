use Rattle.std.proofs.Common.{[]}
use Rattle.witness_store.specs.Finding.{AreNumbers}
use Rattle.witness_store.proofs.cells.no_numbers.Given as goal

-- so many nodes so far have no number
abbrev pub invariant-loop : goal.invariant-loop
invariant-loop l = AreNumbers [] l.counter l.numbers.items
