use Rattle.std.proofs.Common.{◌≡◌, length, drop, map, None}
use Rattle.store_core.specs.Tables.{fields_of}
use Rattle.store_text.specs.Saying.{say_fields}
use Rattle.store_text.proofs.read.fields.say_fields.Given as goal

abbrev pub invariant-loop-given : goal.invariant-loop-given
invariant-loop-given l =
    (say_fields l.types l.v l.values (drop l.given-index l.fields) ≡ say_fields l.types l.v (map (λ f. None) (fields_of l.types l.v.ty)) l.fields)
    × (length l.values ≡ length (fields_of l.types l.v.ty))
