use Rattle.std.proofs.Common.{◌≡◌, [], drop}
use Rattle.store_text.specs.Saying.{members_after}
use Rattle.store_text.proofs.read.holds.members.Given as goal

abbrev pub invariant-loop-number : goal.invariant-loop-number
invariant-loop-number l = members_after l.set.keys (drop l.number-index l.numbers) ≡ members_after [] l.numbers
