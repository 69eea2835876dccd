-- What the lines have said, as a draft keeps it.
use Rattle.std.specs.Prelude.{◌≡◌, ℕ, List, map, Option}
use Rattle.std.specs.List.Sorted.{IsStrictlySortedBy}
use Rattle.std.specs.Ordering.{nat_cmp}
use Rattle.std.specs.FinMap.{from_sorted}
use Rattle.store_core.specs.declared.value.Value.{Value}
use Rattle.store_text.specs.declared.read.fields.SaidCell.{SaidCell}
use Rattle.store_text.specs.declared.read.holds.Mention.{Mention}
use Rattle.store_core.specs.Stores.{CellEntry}
use Rattle.store_text.specs.Saying.{Said}
use Rattle.store_text.specs.Reading.{next_after}

abbrev pub said_cell : SaidCell → CellEntry
said_cell cell = record { variant = cell.variant; values = cell.values }

-- the cells by number
abbrev pub said_cells : List (ℕ × SaidCell) → List (ℕ × CellEntry)
said_cells cells = map (λ e. (e.0, said_cell e.1)) cells

abbrev pub said_of : List (ℕ × SaidCell) → List (Option Value) → List Mention → Said
said_of cells vars mentions = record { cells = from_sorted (said_cells cells); vars = vars; mentions = mentions }

-- the numbers rise, and the next number is kept up to date
pub record IsUpToDate (cells : List (ℕ × SaidCell)) (above : ℕ) : Type 0 where
  pub rising : IsStrictlySortedBy nat_cmp (map (λ e. e.0) cells)
  pub next : above ≡ next_after (map (λ e. e.0) cells)
