use Rattle.std.proofs.Common.{◌≡◌, length}
use Rattle.ws2s_example.specs.Texts.{AllAscend, HaveTexts}
use Rattle.ws2s_example.proofs.sets.sets_of.Given as goal

abbrev pub invariant-loop-place : goal.invariant-loop-place
invariant-loop-place l = (length l.sets.items ≡ l.count) × AllAscend l.sets.items × HaveTexts l.nodes l.place l.sets.items
