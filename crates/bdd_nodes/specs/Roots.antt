-- Tables of roots, each registered under a number of its own.
use Rattle.std.specs.Prelude.{ℕ, ◌<◌, List, [], ◌∷◌, length, Option, Some, None, nat_eq, option_and_then, slice_get, slice_index_or, if◌then◌else◌}
use Rattle.bdd_nodes.specs.declared.node_ref.NodeRef.{NodeRef}
use Rattle.bdd_nodes.specs.declared.roots.RootTable.{RootTable}
use Rattle.bdd_nodes.specs.declared.roots.TableId.{TableId}

-- the registered tables, and how many were added so far
pub record Registered : Type 0 where
  pub tables : List RootTable
  pub added : ℕ

-- how many tables were added before the one with this name
abbrev pub number_of : TableId → ℕ
number_of id = id.0

-- the roots of the table with this number
abbrev pub roots_under : List RootTable → ℕ → Option (List NodeRef)
roots_under [] number = None
roots_under (table ∷ tables) number =
    if nat_eq (number_of table.id) number then Some table.roots else roots_under tables number

-- the root at an index of the table with this number
abbrev pub root_under : List RootTable → ℕ → ℕ → Option NodeRef
root_under tables number index = option_and_then (λ roots. slice_get roots index) (roots_under tables number)

-- the table at a position, and one without roots past the end
abbrev pub table_at : List RootTable → ℕ → RootTable
table_at tables position = slice_index_or tables position (record { id = record { 0 = 0 }; roots = [] })

-- the number of the table at a position
abbrev pub number_at : List RootTable → ℕ → ℕ
number_at tables position = number_of (table_at tables position).id

-- the numbers rise, and each was given before
pub record AreNumbered (tables : List RootTable) (added : ℕ) : Type 0 where
  pub rise : (i j : ℕ) → i < j → j < length tables → number_at tables i < number_at tables j
  pub given : (i : ℕ) → i < length tables → number_at tables i < added
