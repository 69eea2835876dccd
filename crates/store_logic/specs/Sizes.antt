-- How large an assertion is.
use Rattle.std.specs.Prelude.{ℕ, ◌+◌, ◌*◌}
use Rattle.store_logic.specs.declared.assertion.Assertion.{Assertion}
use Rattle.store_logic.specs.declared.assertion.Assertion.TheOpen.{Assertion-F}
use Rattle.store_logic.specs.declared.assertion.Assertion.TheFolds.{fold-Assertion}

abbrev pub count_of_node : Assertion-F ℕ → ℕ
count_of_node Assertion-F.True = 1
count_of_node Assertion-F.False = 1
count_of_node (Assertion-F.Truth t) = 1
count_of_node (Assertion-F.Is t v) = 1
count_of_node (Assertion-F.Same t u) = 1
count_of_node (Assertion-F.Member t set) = 1
count_of_node (Assertion-F.Subset set other) = 1
count_of_node (Assertion-F.Walk t along u) = 1
count_of_node (Assertion-F.Pred k args) = 1
count_of_node (Assertion-F.Not a) = a + 1
count_of_node (Assertion-F.And a b) = a + b + 1
count_of_node (Assertion-F.Or a b) = a + b + 1
count_of_node (Assertion-F.Imp a b) = a + b + 1
count_of_node (Assertion-F.Iff a b) = 2 * (a + b) + 1
count_of_node (Assertion-F.Ex ty a) = a + 1
count_of_node (Assertion-F.All ty a) = a + 1
count_of_node (Assertion-F.ExSet ty a) = a + 1
count_of_node (Assertion-F.AllSet ty a) = a + 1

-- the number of nodes, the nodes of each side of an `Iff` counted twice
abbrev pub node_count : Assertion → ℕ
node_count = fold-Assertion ℕ count_of_node
