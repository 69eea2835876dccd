use Rattle.std.proofs.Common.{◌≡◌, ◌++◌, drop}
use Rattle.std.specs.Option.{option_map}
use Rattle.store_text.specs.Spelling.{all_of, number_of}
use Rattle.store_text.proofs.read.values.all_numbers.Given as goal

abbrev pub invariant-loop-word : goal.invariant-loop-word
invariant-loop-word l = option_map (λ rest. l.numbers ++ rest) (all_of number_of (drop l.word-index l.words)) ≡ all_of number_of l.words
