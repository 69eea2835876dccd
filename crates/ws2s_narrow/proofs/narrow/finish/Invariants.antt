use Rattle.std.proofs.Common.{◌≡◌, ◌++◌, reverse, length}
use Rattle.ws2s_narrow.specs.Taking.{quantifiers}
use Rattle.ws2s_narrow.proofs.narrow.finish.Given as goal

abbrev pub invariant-loop-next : goal.invariant-loop-next
invariant-loop-next l = quantifiers l.staying.entries ++ reverse l.symbols.items ≡ quantifiers l.fn.staying.entries ++ reverse l.fn.symbols.items

abbrev pub decreases-loop-next : goal.decreases-loop-next
decreases-loop-next l = length l.staying.entries
