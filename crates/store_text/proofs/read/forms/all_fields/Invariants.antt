use Rattle.std.proofs.Common.{◌≡◌, ◌++◌, drop}
use Rattle.std.specs.Option.{option_map}
use Rattle.store_text.specs.Spelling.{all_of, field_of}
use Rattle.store_text.proofs.read.forms.all_fields.Given as goal

abbrev pub invariant-loop-word : goal.invariant-loop-word
invariant-loop-word l = option_map (λ rest. l.fields ++ rest) (all_of field_of (drop l.word-index l.words)) ≡ all_of field_of l.words
