-- Which assertions have others in them.
use Rattle.std.specs.Prelude.{Bool, true, false}
use Rattle.pale_syntax.specs.declared.tree.assertion.Assertion.{Assertion, out-Assertion}
use Rattle.pale_syntax.specs.declared.tree.assertion.Assertion.TheOpen.{Assertion-F}

abbrev pub has_parts_in : {Part : Type 0} → Assertion-F Part → Bool
has_parts_in Assertion-F.True = false
has_parts_in Assertion-F.False = false
has_parts_in (Assertion-F.Truth p) = false
has_parts_in (Assertion-F.Same t operator u) = false
has_parts_in (Assertion-F.Differ t operator u) = false
has_parts_in (Assertion-F.Member t word set) = false
has_parts_in (Assertion-F.Subset t word other) = false
has_parts_in (Assertion-F.Walk t angle along u) = false
has_parts_in (Assertion-F.Is t colon v) = false
has_parts_in (Assertion-F.Use p paths) = false
has_parts_in (Assertion-F.Not place a) = true
has_parts_in (Assertion-F.And first others) = true
has_parts_in (Assertion-F.Or first others) = true
has_parts_in (Assertion-F.Imp a place b) = true
has_parts_in (Assertion-F.Iff first others) = true
has_parts_in (Assertion-F.Quantified q a) = true

abbrev pub has_parts : Assertion → Bool
has_parts a = has_parts_in (out-Assertion a)
