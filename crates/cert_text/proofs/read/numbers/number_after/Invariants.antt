use Rattle.std.proofs.Common.{◌≡◌, drop}
use Rattle.cert_text.specs.Reading.{number_after}
use Rattle.cert_text.proofs.read.numbers.number_after.Given as goal

abbrev pub invariant-loop-digit : goal.invariant-loop-digit
invariant-loop-digit l = number_after l.number (drop l.digit-index l.digits) ≡ number_after 0 l.digits
