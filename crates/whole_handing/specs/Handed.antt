-- What of a store is handed over, and what stays.
use Rattle.std.specs.Prelude.{ℕ, Bool, not, List, if◌then◌else◌}
use Rattle.store_core.specs.declared.ids.CellId.{CellId}
use Rattle.routing_walks.specs.Regions.{has_number}

-- the number is that of one of the cells; or, of those outside them, it isn't
abbrev pub is_on : List CellId → Bool → ℕ → Bool
is_on cells inside number = if inside then has_number cells number else not (has_number cells number)
