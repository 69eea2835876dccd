-- What the loop that drops a formula lowers.
use Rattle.std.specs.Prelude.{ℕ, ◌+◌, ◌*◌}
use Rattle.ws2s_core.specs.declared.formula.Formula.{Formula, out-Formula}
use Rattle.ws2s_core.specs.declared.formula.Formula.TheOpen.{Formula-F}
use Rattle.ws2s_core.specs.declared.formula.Formula.TheFolds.{fold-Formula}

-- a formula's weight by that of its parts: a left part counts twice, so that turning a conjunction to the right
-- lowers it
abbrev pub weight_of_node : Formula-F ℕ → ℕ
weight_of_node (Formula-F.Sub x y) = 1
weight_of_node (Formula-F.Single x) = 1
weight_of_node (Formula-F.Succ0 x y) = 1
weight_of_node (Formula-F.Succ1 x y) = 1
weight_of_node (Formula-F.Root x) = 1
weight_of_node (Formula-F.And f g) = 2 * f + g + 1
weight_of_node (Formula-F.Not f) = f + 1
weight_of_node (Formula-F.Ex2 x f) = f + 1

abbrev pub turning_weight : Formula → ℕ
turning_weight = fold-Formula ℕ weight_of_node

-- 0 for an atom and 2 for any other form
abbrev pub rank_of_node : Formula-F Formula → ℕ
rank_of_node (Formula-F.Sub x y) = 0
rank_of_node (Formula-F.Single x) = 0
rank_of_node (Formula-F.Succ0 x y) = 0
rank_of_node (Formula-F.Succ1 x y) = 0
rank_of_node (Formula-F.Root x) = 0
rank_of_node (Formula-F.And f g) = 2
rank_of_node (Formula-F.Not f) = 2
rank_of_node (Formula-F.Ex2 x f) = 2

abbrev pub dropping_rank : Formula → ℕ
dropping_rank f = rank_of_node (out-Formula f)
