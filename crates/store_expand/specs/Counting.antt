-- The counting of an assertion by its parts.
use Rattle.std.specs.Prelude.{ℕ, List, map}
use Rattle.store_logic.specs.declared.assertion.Assertion.{Assertion, out-Assertion}
use Rattle.store_logic.specs.Postfix.{parts_of}
use Rattle.store_logic.specs.ExpandingSizes.{part_times}
use Rattle.store_expand.specs.declared.size.Uncounted.{Uncounted}

-- an assertion that is to be counted, without the pointer to it, and how often it counts
abbrev pub counted : Uncounted → Assertion × ℕ
counted part = (part.assertion.now, part.times)

-- the parts of an assertion that counts so often, each with how often it counts
abbrev pub counted_parts : ℕ → Assertion → List (Assertion × ℕ)
counted_parts times a = map (λ part. (part, part_times times a)) (parts_of Assertion (out-Assertion a))
