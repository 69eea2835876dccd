-- Where the cells of a seen store stand, and which cells positions have.
use Rattle.std.specs.Prelude.{◌≡◌, ◌<◌, IsSome}
use Rattle.gta_theory.specs.Assignments.{Position}
use Rattle.store_core.specs.declared.ids.CellId.{CellId}
use Rattle.store_core.specs.declared.ids.TypeId.{TypeId}
use Rattle.store_core.specs.declared.ids.VariantId.{VariantId}
use Rattle.store_core.specs.declared.ids.FieldId.{FieldId}
use Rattle.store_core.specs.Stores.{StoreMap, IsLive, IsAbove, field_value}
use Rattle.routing_walks.specs.Walks.{IsOfType, IsOfVariant}
use Rattle.graph_view.specs.After.{Standing, IsAt}

-- each live cell has a position, no cell has two, and no two cells have one; numbers from the next on stand nowhere
pub record Sits (s : StoreMap) (at : Standing) : Type 0 where
  pub above : IsAbove s
  pub below : (c : CellId) (p : Position) → IsAt at c p → c.0 < s.next
  pub there : (c : CellId) → IsLive s c → (p : Position) × IsAt at c p
  pub one : (c : CellId) (p q : Position) → IsAt at c p → IsAt at c q → p ≡ q
  pub apart : (c d : CellId) (p : Position) → IsAt at c p → IsAt at d p → c ≡ d

-- a live cell stands there; one of the variant, of the type, with the field
abbrev pub LiveAt : StoreMap → Standing → Position → Type 0
LiveAt s at p = (c : CellId) × IsAt at c p × IsLive s c

abbrev pub VariantAt : StoreMap → Standing → VariantId → Position → Type 0
VariantAt s at v p = (c : CellId) × IsAt at c p × IsOfVariant s v c

abbrev pub TypeAt : StoreMap → Standing → TypeId → Position → Type 0
TypeAt s at ty p = (c : CellId) × IsAt at c p × IsOfType s ty c

abbrev pub FieldAt : StoreMap → Standing → FieldId → Position → Type 0
FieldAt s at f p = (c : CellId) × IsAt at c p × IsSome (field_value s c f)
