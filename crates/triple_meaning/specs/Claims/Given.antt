-- Tracks with the cells of a part: what data fields reach from data variables.
use Rattle.std.specs.Prelude.{◌≡◌, ◌↔◌, ◌⊎◌, ℕ, ◌<◌, IsTrue, List, Option, Some, Contains, IsSomeAnd, IfSome}
use Rattle.gta_theory.specs.Assignments.{Position, Assignment}
use Rattle.ws2s_core.specs.declared.track.Track.{Track}
use Rattle.ws2s_forms.specs.Forms.{track}
use Rattle.store_core.specs.declared.ids.CellId.{CellId}
use Rattle.store_core.specs.declared.ids.VarId.{VarId}
use Rattle.store_core.specs.declared.value.Value.TheVariants as value
use Rattle.store_core.specs.Tables.{TypeEntry, VarEntry}
use Rattle.store_core.specs.Stores.{StoreMap, IsLive, var_value}
use Rattle.routing_walks.specs.Regions.{IsReachedFrom}
use Rattle.store_logic.specs.declared.region.Region.{Region}
use Rattle.store_logic.specs.declared.region.Region.TheVariants as region
use Rattle.graph_view.specs.After.{Standing, IsAt}

-- the track has just the positions of the cells that data fields reach from these data variables
abbrev pub HasPart : List TypeEntry → List VarEntry → Assignment → Standing → Track → StoreMap → List VarId → Type 0
HasPart types vars a at x s roots = (p : Position) → IsTrue (a x.0 p) ↔ ((c : CellId) × IsReachedFrom types vars s roots c × IsAt at c p)

-- the track is one in use, and has the part
pub record IsGiven (types : List TypeEntry) (vars : List VarEntry) (a : Assignment) (at : Standing) (s : StoreMap) (count : ℕ) (roots : List VarId)
    (x : Track) : Type 0 where
  pub below : x.0 < count
  pub has : HasPart types vars a at x s roots

-- where the region is a part or the rest of one, its track is given
abbrev pub IsRegionGiven : List TypeEntry → List VarEntry → Assignment → Standing → StoreMap → ℕ → Option Track → Region → Type 0
IsRegionGiven types vars a at s count part region.All = Unit {0}
IsRegionGiven types vars a at s count part (region.Part roots) = IsSomeAnd part (IsGiven types vars a at s count roots)
IsRegionGiven types vars a at s count part (region.Rest roots) = IsSomeAnd part (IsGiven types vars a at s count roots)

-- the region is all cells, the part of these variables, or its rest
abbrev pub IsRegionOf : Option (List VarId) → Region → Type 0
IsRegionOf named region.All = Unit {0}
IsRegionOf named (region.Part roots) = named ≡ Some roots
IsRegionOf named (region.Rest roots) = named ≡ Some roots

-- where a part is named, the track with this number is given
abbrev pub IsPartGiven : List TypeEntry → List VarEntry → Assignment → Standing → StoreMap → ℕ → ℕ → Option (List VarId) → Type 0
IsPartGiven types vars a at s count x named = IfSome named (λ roots. IsGiven types vars a at s count roots (track x))

-- ---- with dead cells

-- one of these variables names the cell, which may be dead
abbrev pub IsNamedBy : StoreMap → List VarId → CellId → Type 0
IsNamedBy s roots c = (v : VarId) × Contains roots v × (var_value s v ≡ Some (value.Cell (Some c)))

-- the track has the part, and the dead cells that these variables name
abbrev pub HasNamedPart : List TypeEntry → List VarEntry → Assignment → Standing → Track → StoreMap → List VarId → Type 0
HasNamedPart types vars a at x s roots =
    (p : Position) → IsTrue (a x.0 p) ↔ ((c : CellId) × (IsReachedFrom types vars s roots c ⊎ IsNamedBy s roots c) × IsAt at c p)

-- none of these variables names a dead cell
abbrev pub NameLive : StoreMap → List VarId → Type 0
NameLive s roots = (c : CellId) → IsNamedBy s roots c → IsLive s c
