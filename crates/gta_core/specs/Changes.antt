-- What a change of a shelf leaves of a registered table.
use Rattle.std.specs.Prelude.{◌≡◌, ◌≢◌, ◌+◌, ℕ, List, Option, IsSome, option_map}
use Rattle.labels.specs.Labels.{Function}
use Rattle.bdd_nodes.specs.declared.node_ref.NodeRef.{NodeRef}
use Rattle.bdd_nodes.specs.Shelf.{Contents, state_of, roots_of, root_of, tables_added}
use Rattle.bdd_nodes.specs.Changes.{AddsTable}

-- the function of the root at a place of a table
abbrev pub function_of : Contents → ℕ → ℕ → Option Function
function_of shelf number place = option_map (state_of shelf) (root_of shelf number place)

-- the table stays registered, with as many roots, each with its function
pub record KeepsTable (old new : Contents) (number : ℕ) : Type 0 where
  pub registered : IsSome (roots_of old number) → IsSome (roots_of new number)
  pub functions : (place : ℕ) → function_of new number place ≡ function_of old number place

-- a table is registered under this number, with some roots, and nothing else changes
pub record AddsOneTable (old new : Contents) (number : ℕ) : Type 0 where
  pub roots : List NodeRef
  pub adds : AddsTable old new number roots

-- a table is registered under the next number, and the other tables are as they were
pub record RegistersTable (old new : Contents) (table : ℕ) : Type 0 where
  pub number : table ≡ tables_added old
  pub added : tables_added new ≡ tables_added old + 1
  pub registered : IsSome (roots_of new table)
  pub others : (other : ℕ) → other ≢ table → roots_of new other ≡ roots_of old other
