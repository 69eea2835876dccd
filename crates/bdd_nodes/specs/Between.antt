-- Where a table with a number stands.
use Rattle.std.specs.Prelude.{ℕ, ◌<◌, ◌≤◌, List, length}
use Rattle.bdd_nodes.specs.declared.roots.RootTable.{RootTable}
use Rattle.bdd_nodes.specs.Roots.{number_at}

-- no table below `low` has the number, nor any from `high` on
pub record IsBetween (tables : List RootTable) (number low high : ℕ) : Type 0 where
  pub ordered : low ≤ high
  pub within : high ≤ length tables
  pub above : (i : ℕ) → i < low → number_at tables i < number
  pub below : (i : ℕ) → high ≤ i → i < length tables → number < number_at tables i
