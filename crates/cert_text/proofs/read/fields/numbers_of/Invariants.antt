use Rattle.std.proofs.Common.{◌≡◌, ◌-◌}
use Rattle.cert_text.specs.Reading.{numbers_of}
use Rattle.cert_text.proofs.ListsLemmas.{left_of}
use Rattle.cert_text.proofs.read.fields.numbers_of.Given as goal

abbrev pub invariant-loop : goal.invariant-loop
invariant-loop l = left_of l.numbers (l.end - l.counter) l.left ≡ numbers_of l.bytes
