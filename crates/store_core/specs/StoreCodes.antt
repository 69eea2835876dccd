-- A finite map has a code, so that a store's value has one.
use Rattle.std.specs.Coded.{Coded, coded_ℕ}
use Rattle.std.specs.Ordering.{nat_cmp}
use Rattle.std.specs.FinMap.{FinMap, code}

abbrev pub code_of_map : {X : Type 0} → Coded X → Coded (FinMap nat_cmp X)
code_of_map x = code coded_ℕ x
