-- A store as it is kept, read as a finite map.
use Rattle.std.specs.Prelude.{◌≡◌, ℕ, ◌+◌, ◌<◌, true, List, [], ◌∷◌, map, length}
use Rattle.std.specs.List.{AllByRecursion, filter}
use Rattle.std.specs.FinMap.{FinMap, from_sorted}
use Rattle.std.specs.Ordering.{nat_cmp}
use Rattle.store_core.specs.declared.store.CellBody.{CellBody}
use Rattle.store_core.specs.declared.value.Value.{Value}
use Rattle.store_core.specs.Stores.{StoreMap, CellEntry}

-- a cell under its number
abbrev pub cell_entry : CellBody → ℕ × CellEntry
cell_entry b = (b.number, record { variant = b.variant; values = b.values })

abbrev pub cells_of : List CellBody → List (ℕ × CellEntry)
cells_of bodies = map cell_entry bodies

-- the numbers rise
abbrev pub AreInOrder : List CellBody → Type 0
AreInOrder [] = Unit {0}
AreInOrder (b ∷ bodies) = AllByRecursion (λ d. b.number < d.number) bodies × AreInOrder bodies

-- the cells that weren't freed
abbrev pub live_of : List CellBody → List CellBody
live_of bodies = filter (λ b. b.is_live) bodies

-- no cell has the number
abbrev pub LacksNumber : List CellBody → ℕ → Type 0
LacksNumber bodies q = AllByRecursion (λ b. b.number ≡ q → ⊥) bodies

-- none was freed
abbrev pub AreLive : List CellBody → Type 0
AreLive bodies = AllByRecursion (λ b. b.is_live ≡ true) bodies

-- the map that cells in order make
abbrev pub map_of : List CellBody → FinMap nat_cmp CellEntry
map_of bodies = from_sorted (cells_of bodies)

abbrev pub store_of : List CellBody → List Value → ℕ → StoreMap
store_of bodies vars next = record { cells = map_of bodies; vars = vars; next = next }

-- the numbers rise and are below the next
pub record IsKept (bodies : List CellBody) (next : ℕ) : Type 0 where
  pub rising : AreInOrder bodies
  pub below : AllByRecursion (λ b. b.number < next) bodies

-- the numbers rise and are below the next, and so many cells were freed
pub record IsStored (bodies : List CellBody) (freed : ℕ) (next : ℕ) : Type 0 where
  pub kept : IsKept bodies next
  pub count : length bodies ≡ length (live_of bodies) + freed
