-- Which cells some places of a list name, and which two of them do.
use Rattle.std.specs.Prelude.{◌⊎◌, ◌↔◌, ◌<◌, ℕ, List, IsSomeAnd, slice_get}
use Rattle.store_core.specs.declared.ids.CellId.{CellId}
use Rattle.store_core.specs.Tables.{TypeEntry, VarEntry}
use Rattle.store_core.specs.Stores.{StoreMap, IsLive}
use Rattle.routing_walks.specs.declared.fault.Place.{Place}
use Rattle.routing_walks.specs.WellFormed.{Names}
use Rattle.routing_walks.specs.Sets.{Has}
use Rattle.routing_expr.specs.declared.shared.Named.{Named}

-- the place names the cell, which is live
pub record NamesLive (types : List TypeEntry) (vars : List VarEntry) (s : StoreMap) (p : Place) (c : CellId) : Type 0 where
  pub live : IsLive s c
  pub names : Names types vars s p c

-- the place at this number of the list does
abbrev pub NamesAt : List TypeEntry → List VarEntry → StoreMap → List Place → ℕ → CellId → Type 0
NamesAt types vars s places k c = IsSomeAnd (slice_get places k) (λ p. NamesLive types vars s p c)

-- one of the first places does, as many as this
pub record IsNamedBelow (types : List TypeEntry) (vars : List VarEntry) (s : StoreMap) (places : List Place) (n : ℕ) (c : CellId) : Type 0 where
  pub place : ℕ
  pub below : place < n
  pub names : NamesAt types vars s places place c

-- two of the first places do, as many as this
pub record IsNamedTwiceBelow (types : List TypeEntry) (vars : List VarEntry) (s : StoreMap) (places : List Place) (n : ℕ) (c : CellId) : Type 0 where
  pub place : ℕ
  pub below : place < n
  pub names : NamesAt types vars s places place c
  pub before : IsNamedBelow types vars s places place c

-- the sets have what they had, and besides what is named
pub record Counts (IsNamed : CellId → Type 0) (old new : Named) : Type 0 where
  pub once : (c : CellId) → Has new.once c ↔ (Has old.once c ⊎ IsNamed c)
  pub twice : (c : CellId) → Has new.twice c ↔ (Has old.twice c ⊎ (IsNamed c × Has old.once c))
