-- Whose values are looked at: those of data variables alone, or of pointer variables too.
use Rattle.std.specs.Prelude.{ℕ, Bool, true, false, List, [], slice_get}
use Rattle.std.specs.Option.{option_map_or}
use Rattle.store_core.specs.declared.kind.VarKind.{VarKind}
use Rattle.store_core.specs.Tables.{VarEntry}
use Rattle.graph_view.specs.declared.view.Sym.{Sym}
use Rattle.graph_view.specs.Cuts.{cell_value, data_value}

abbrev pub value_of : Bool → VarKind → Sym → List Sym
value_of true = cell_value
value_of false = data_value

-- the value of the variable with this number, where there are both
abbrev pub value_at : (VarKind → Sym → List Sym) → List VarEntry → List Sym → ℕ → List Sym
value_at value vars values i = option_map_or (λ e. option_map_or (value e.kind) (slice_get values i) []) (slice_get vars i) []
