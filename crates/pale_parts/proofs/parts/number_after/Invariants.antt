use Rattle.std.proofs.Common.{◌≡◌, drop}
use Rattle.store_text.specs.Spelling.{number_after}
use Rattle.pale_parts.proofs.parts.number_after.Given as goal

abbrev pub invariant-loop-digit : goal.invariant-loop-digit
invariant-loop-digit l = number_after l.number (drop l.digit-index l.digits) ≡ number_after 0 l.digits
