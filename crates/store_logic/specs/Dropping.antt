-- What the loop that drops an assertion lowers.
use Rattle.std.specs.Prelude.{ℕ, ◌+◌, ◌*◌}
use Rattle.store_logic.specs.declared.assertion.Assertion.{Assertion, out-Assertion}
use Rattle.store_logic.specs.declared.assertion.Assertion.TheOpen.{Assertion-F}
use Rattle.store_logic.specs.declared.assertion.Assertion.TheFolds.{fold-Assertion}

-- an assertion's weight by that of its parts: a left part counts twice, so that turning an assertion of two parts to the right
-- lowers it
abbrev pub weight_of_node : Assertion-F ℕ → ℕ
weight_of_node Assertion-F.True = 1
weight_of_node Assertion-F.False = 1
weight_of_node (Assertion-F.Truth t) = 1
weight_of_node (Assertion-F.Is t v) = 1
weight_of_node (Assertion-F.Same t u) = 1
weight_of_node (Assertion-F.Member t set) = 1
weight_of_node (Assertion-F.Subset set other) = 1
weight_of_node (Assertion-F.Walk t along u) = 1
weight_of_node (Assertion-F.Pred k args) = 1
weight_of_node (Assertion-F.Not a) = a + 1
weight_of_node (Assertion-F.And a b) = 2 * a + b + 1
weight_of_node (Assertion-F.Or a b) = 2 * a + b + 1
weight_of_node (Assertion-F.Imp a b) = 2 * a + b + 1
weight_of_node (Assertion-F.Iff a b) = 2 * a + b + 1
weight_of_node (Assertion-F.Ex ty a) = a + 1
weight_of_node (Assertion-F.All ty a) = a + 1
weight_of_node (Assertion-F.ExSet ty a) = a + 1
weight_of_node (Assertion-F.AllSet ty a) = a + 1

abbrev pub turning_weight : Assertion → ℕ
turning_weight = fold-Assertion ℕ weight_of_node

-- 0 for an assertion without parts and 2 for any other
abbrev pub rank_of_node : Assertion-F Assertion → ℕ
rank_of_node Assertion-F.True = 0
rank_of_node Assertion-F.False = 0
rank_of_node (Assertion-F.Truth t) = 0
rank_of_node (Assertion-F.Is t v) = 0
rank_of_node (Assertion-F.Same t u) = 0
rank_of_node (Assertion-F.Member t set) = 0
rank_of_node (Assertion-F.Subset set other) = 0
rank_of_node (Assertion-F.Walk t along u) = 0
rank_of_node (Assertion-F.Pred k args) = 0
rank_of_node (Assertion-F.Not a) = 2
rank_of_node (Assertion-F.And a b) = 2
rank_of_node (Assertion-F.Or a b) = 2
rank_of_node (Assertion-F.Imp a b) = 2
rank_of_node (Assertion-F.Iff a b) = 2
rank_of_node (Assertion-F.Ex ty a) = 2
rank_of_node (Assertion-F.All ty a) = 2
rank_of_node (Assertion-F.ExSet ty a) = 2
rank_of_node (Assertion-F.AllSet ty a) = 2

abbrev pub dropping_rank : Assertion → ℕ
dropping_rank a = rank_of_node (out-Assertion a)
