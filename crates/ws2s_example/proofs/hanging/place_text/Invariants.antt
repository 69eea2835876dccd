use Rattle.std.proofs.Common.{◌≡◌, ◌++◌, codes, take}
use Rattle.std.specs.List.{flat_map}
use Rattle.ws2s_example.specs.Examples.{letter_text}
use Rattle.ws2s_example.proofs.hanging.place_text.Given as goal

abbrev pub invariant-loop-letter : goal.invariant-loop-letter
invariant-loop-letter l = l.text.items ≡ codes "root" ++ flat_map letter_text (take l.letter-index l.letter-items)
