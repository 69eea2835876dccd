-- The cells of two stores beside each other.
use Rattle.std.specs.Prelude.{◌≡◌, ◌<◌, ◌≤◌, ℕ, true, List, ◌++◌, Option, Some, None, slice_get, length}
use Rattle.std.specs.Ordering.{nat_cmp}
use Rattle.std.specs.FinMap.{entries, keys, find}
use Rattle.store_core.specs.declared.ids.CellId.{CellId}
use Rattle.store_core.specs.declared.store.CellBody.{CellBody}
use Rattle.store_core.specs.Stores.{StoreMap, CellEntry, IsLive}
use Rattle.store_core.specs.StoreBodies.{cell_entry, cells_of, AreInOrder, AreLive}
use Rattle.whole_handing.specs.declared.beside.Which.{Which}
use Rattle.whole_handing.specs.declared.beside.Which.TheVariants as which

-- no cell is live in both
abbrev pub AreApart : StoreMap → StoreMap → Type 0
AreApart s t = (c : CellId) → IsLive s c → IsLive t c → ⊥

-- the one with the smaller number
abbrev pub IsSmaller : CellBody → CellBody → Which → Type 0
IsSmaller b d (which.First x) = (x.now ≡ b) × (b.number < d.number)
IsSmaller b d (which.Second x) = (x.now ≡ d) × (d.number ≤ b.number)

-- a live cell at this place, and its number isn't above that of the cell at the other place of the other store
pub record IsNextOf (s t : StoreMap) (i j : ℕ) (b : CellBody) : Type 0 where
  pub here : slice_get (entries s.cells) i ≡ Some (cell_entry b)
  pub live : b.is_live ≡ true
  pub within : i < length (keys s.cells)
  pub before : (e : ℕ × CellEntry) → slice_get (entries t.cells) j ≡ Some e → b.number ≤ e.0

-- of the cells from these places on the one with the smallest number; there is none only at both ends
abbrev pub IsNext : StoreMap → StoreMap → ℕ → ℕ → Option Which → Type 0
IsNext s t i j None = (slice_get (entries s.cells) i ≡ None) × (slice_get (entries t.cells) j ≡ None)
IsNext s t i j (Some (which.First b)) = IsNextOf s t i j b.now
IsNext s t i j (Some (which.Second b)) = IsNextOf t s j i b.now

-- the live cells of both, by rising number
pub record AreAll (s t : StoreMap) (made : List CellBody) : Type 0 where
  pub live : AreLive made
  pub rising : AreInOrder made
  pub found : (q : ℕ) → find nat_cmp q (cells_of made) ≡ find nat_cmp q (entries s.cells ++ entries t.cells)
