-- What the loop that drops a condition lowers.
use Rattle.std.specs.Prelude.{ℕ, ◌+◌, ◌*◌}
use Rattle.store_logic.specs.declared.cond.Cond.{Cond, out-Cond}
use Rattle.store_logic.specs.declared.cond.Cond.TheOpen.{Cond-F}
use Rattle.store_logic.specs.declared.cond.Cond.TheFolds.{fold-Cond}

-- a condition's weight by that of its parts: a left part counts twice, so that turning a condition of two parts to the right
-- lowers it
abbrev pub weight_of_node : Cond-F ℕ → ℕ
weight_of_node Cond-F.True = 1
weight_of_node Cond-F.False = 1
weight_of_node (Cond-F.Bool p) = 1
weight_of_node (Cond-F.Is p v) = 1
weight_of_node (Cond-F.Same p q) = 1
weight_of_node (Cond-F.Not c) = c + 1
weight_of_node (Cond-F.And c d) = 2 * c + d + 1
weight_of_node (Cond-F.Or c d) = 2 * c + d + 1

abbrev pub turning_weight : Cond → ℕ
turning_weight = fold-Cond ℕ weight_of_node

-- 0 for a condition without parts and 2 for any other
abbrev pub rank_of_node : Cond-F Cond → ℕ
rank_of_node Cond-F.True = 0
rank_of_node Cond-F.False = 0
rank_of_node (Cond-F.Bool p) = 0
rank_of_node (Cond-F.Is p v) = 0
rank_of_node (Cond-F.Same p q) = 0
rank_of_node (Cond-F.Not c) = 2
rank_of_node (Cond-F.And c d) = 2
rank_of_node (Cond-F.Or c d) = 2

abbrev pub dropping_rank : Cond → ℕ
dropping_rank c = rank_of_node (out-Cond c)
