use Rattle.std.proofs.Common.{◌≡◌, ◌++◌, take, codes}
use Rattle.std.specs.List.{flat_map}
use Rattle.store_words.specs.Words.{field_name}
use Rattle.trace_text.proofs.places.push_fields.Given as goal

-- the fields so far, each after a dot
abbrev pub invariant-loop-field : goal.invariant-loop-field
invariant-loop-field l = l.text.items ≡ l.initial.text.items ++ flat_map (λ f. codes "." ++ field_name l.types f) (take l.field-index l.fields)
