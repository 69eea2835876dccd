-- How large a formula is.
use Rattle.std.specs.Prelude.{◌≡◌, ℕ, ◌+◌, ◌-◌, ◌≤◌, min, max, if◌then◌else◌, ◌==◌}
use Rattle.ws2s_core.specs.declared.formula.Formula.{Formula}
use Rattle.ws2s_core.specs.declared.formula.Formula.TheOpen.{Formula-F}
use Rattle.ws2s_core.specs.declared.formula.Formula.TheFolds.{fold-Formula}

abbrev pub count_of_node : Formula-F ℕ → ℕ
count_of_node (Formula-F.Sub x y) = 1
count_of_node (Formula-F.Single x) = 1
count_of_node (Formula-F.Succ0 x y) = 1
count_of_node (Formula-F.Succ1 x y) = 1
count_of_node (Formula-F.Root x) = 1
count_of_node (Formula-F.And f g) = f + g + 1
count_of_node (Formula-F.Not f) = f + 1
count_of_node (Formula-F.Ex2 t f) = f + 1

-- the number of nodes
abbrev pub node_count : Formula → ℕ
node_count = fold-Formula ℕ count_of_node

abbrev pub order_of_node : Formula-F ℕ → ℕ
order_of_node (Formula-F.Sub x y) = 0
order_of_node (Formula-F.Single x) = 0
order_of_node (Formula-F.Succ0 x y) = 0
order_of_node (Formula-F.Succ1 x y) = 0
order_of_node (Formula-F.Root x) = 0
order_of_node (Formula-F.And f g) = if f == g then f + 1 else max f g
order_of_node (Formula-F.Not f) = f
order_of_node (Formula-F.Ex2 t f) = f

-- the order of Horton and Strahler: how many counts of halves have to be kept at once to count the nodes, where the
-- half of the smaller order is counted first (Ershov 1958)
abbrev pub strahler_order : Formula → ℕ
strahler_order = fold-Formula ℕ order_of_node

-- one half was counted, to the greatest number that is kept, and the other one is left
pub record IsHalfCounted (left right : Formula) (size : ℕ) (other : Formula) : Type 0 where
  pub counted : ℕ
  pub saturated : size ≡ min counted 18446744073709551615
  pub whole : counted + node_count other ≡ node_count left + node_count right
  pub no_harder : strahler_order other ≤ max (strahler_order left) (strahler_order right)

-- so many nodes were counted, to the greatest number that is kept, and this part of the formula is left
pub record IsCountedTo (whole part : Formula) (size : ℕ) : Type 0 where
  pub within : node_count part ≤ node_count whole
  pub saturated : size ≡ min (node_count whole - node_count part) 18446744073709551615
  pub no_harder : strahler_order part ≤ strahler_order whole
