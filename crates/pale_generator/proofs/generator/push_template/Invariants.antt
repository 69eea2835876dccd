use Rattle.std.proofs.Common.{◌≡◌, ◌++◌, drop, flat_map}
use Rattle.pale_generator.specs.Generated.{filled}
use Rattle.pale_generator.proofs.generator.push_template.Given as goal

abbrev pub invariant-loop-byte : goal.invariant-loop-byte
invariant-loop-byte l =
    l.text.items ++ flat_map (filled l.k) (drop l.byte-index l.template) ≡ l.initial.text.items ++ flat_map (filled l.k) l.template
