use Rattle.std.proofs.Common.{◌≡◌, ◌++◌, ◌-◌, flat_map}
use Rattle.std.specs.List.{range_with_len}
use Rattle.pale_generator.specs.Generated.{procedure_text, types_text}
use Rattle.pale_generator.proofs.generator.gen_program.Given as goal

abbrev pub invariant-loop-k : goal.invariant-loop-k
invariant-loop-k l =
    l.text.items ++ flat_map procedure_text (range_with_len l.k (l.k-end - l.k)) ≡ types_text ++ flat_map procedure_text (range_with_len 0 l.k-end)
