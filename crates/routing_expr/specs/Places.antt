-- All places of a store, as a list in their order.
use Rattle.std.specs.Prelude.{◌≡◌, ◌⊎◌, ◌↔◌, ◌<◌, ℕ, List, slice_get, Some, Contains}
use Rattle.std.specs.List.{AllPairs}
use Rattle.std.specs.FinMap.{keys}
use Rattle.store_core.specs.declared.ids.CellId.{CellId}
use Rattle.store_core.specs.declared.value.Value.{Value}
use Rattle.store_core.specs.Stores.{StoreMap}
use Rattle.routing_walks.specs.declared.fault.Place.{Place}
use Rattle.routing_walks.specs.declared.fault.Place.TheVariants as place
use Rattle.routing_walks.specs.WellFormed.{IsThere, ComesBefore, NamesDead, HoldsDead}

-- the places are in order, and each at which a value stands is among them
pub record ArePlaces (s : StoreMap) (places : List Place) : Type 0 where
  pub complete : (p : Place) → IsThere s p → Contains places p
  pub in_order : AllPairs ComesBefore places

-- the places are in order, and are just those that belong
pub record IsListing (Belongs : Place → Type 0) (places : List Place) : Type 0 where
  pub members : (p : Place) → Contains places p ↔ Belongs p
  pub in_order : AllPairs ComesBefore places

-- a variable with a number below this
abbrev pub IsVarBelow : ℕ → Place → Type 0
IsVarBelow n (place.Var v) = v.0 < n
IsVarBelow n (place.Field c f) = ⊥

-- a field of the cell
abbrev pub IsFieldOf : CellId → Place → Type 0
IsFieldOf c (place.Var v) = ⊥
IsFieldOf c (place.Field d g) = d ≡ c

-- a field of the cell with a number below this
abbrev pub IsFieldBelow : CellId → ℕ → Place → Type 0
IsFieldBelow c n (place.Var v) = ⊥
IsFieldBelow c n (place.Field d g) = (d ≡ c) × (g.index < n)

-- a variable, or a field of a cell with a lower number
abbrev pub ComesBeforeCell : CellId → Place → Type 0
ComesBeforeCell c (place.Var v) = Unit {0}
ComesBeforeCell c (place.Field d g) = d.0 < c.0

-- a variable, or a field of one of the first cells by number, as many as this
abbrev pub IsOfFirst : StoreMap → ℕ → Place → Type 0
IsOfFirst s n (place.Var v) = Unit {0}
IsOfFirst s n (place.Field c f) = (k : ℕ) × (k < n) × (slice_get (keys s.cells) k ≡ Some c.0)

-- the value names a dead cell, or is a set that holds one
abbrev pub HasDead : StoreMap → Value → Type 0
HasDead s x = NamesDead s x ⊎ HoldsDead s x
