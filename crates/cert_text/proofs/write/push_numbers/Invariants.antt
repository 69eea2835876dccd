use Rattle.std.proofs.Common.{◌≡◌, ◌++◌, drop}
use Rattle.cert_text.specs.Spelling.{numbers_texts, joined}
use Rattle.cert_text.proofs.write.push_numbers.Given as goal

abbrev pub invariant-loop-number : goal.invariant-loop-number
invariant-loop-number l = l.text.items ++ joined (numbers_texts (drop l.number-index l.numbers)) ≡ l.initial.text.items ++ joined (numbers_texts l.numbers)
