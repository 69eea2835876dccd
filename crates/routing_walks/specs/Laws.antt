-- What walks keep, as one fact for each law.
use Rattle.std.specs.Prelude.{◌≡◌, ◌⊎◌, ◌↔◌, ℕ, Bool, List}
use Rattle.store_core.specs.declared.ids.TypeId.{TypeId}
use Rattle.store_core.specs.declared.ids.VariantId.{VariantId}
use Rattle.store_core.specs.declared.ids.VarId.{VarId}
use Rattle.store_core.specs.declared.ids.CellId.{CellId}
use Rattle.store_core.specs.declared.kind.Route.{Route}
use Rattle.store_core.specs.declared.kind.Route.TheVariants as route
use Rattle.store_core.specs.Tables.{TypeEntry, VarEntry}
use Rattle.store_core.specs.Stores.{StoreMap}
use Rattle.routing_walks.specs.Walks.{Fields, LeadsByName, IsParent, Stays, IsRoot, IsLeaf, IsOfType, IsOfVariant, HasTruth, Chain, Walk}
use Rattle.routing_walks.specs.WellFormed.{IsInTree}

-- a walk goes by the cases of its route
pub record GoesByCases (types : List TypeEntry) (s : StoreMap) (fields : Fields) : Type 0 where
  pub down : (name : List ℕ) (a b : CellId) → Walk types s fields (route.Down name) a b ↔ LeadsByName types s fields name a b
  pub up : (name : List ℕ) (a b : CellId) → Walk types s fields (route.Up name) a b ↔ LeadsByName types s fields name b a
  pub up_any : (a b : CellId) → Walk types s fields route.UpAny a b ↔ IsParent types s b a
  pub root : (a b : CellId) → Walk types s fields route.Root a b ↔ Stays (IsRoot types s) a b
  pub leaf : (a b : CellId) → Walk types s fields route.Leaf a b ↔ Stays (IsLeaf types s) a b
  pub is_type : (ty : TypeId) (a b : CellId) → Walk types s fields (route.IsType ty) a b ↔ Stays (IsOfType s ty) a b
  pub is_variant : (v : VariantId) (a b : CellId) → Walk types s fields (route.IsVariant v) a b ↔ Stays (IsOfVariant s v) a b
  pub is_bool : (name : List ℕ) (truth : Bool) (a b : CellId) →
      Walk types s fields (route.IsBool name truth) a b ↔ Stays (HasTruth types s name truth) a b
  pub then_ : (first second : Route) (a c : CellId) →
      Walk types s fields (route.Then first second) a c ↔ ((b : CellId) × Walk types s fields first a b × Walk types s fields second b c)
  pub or_ : (one other : Route) (a b : CellId) →
      Walk types s fields (route.Or one other) a b ↔ (Walk types s fields one a b ⊎ Walk types s fields other a b)
  pub star : (round : Route) (a b : CellId) → Walk types s fields (route.Star round) a b ↔ Chain s (Walk types s fields round) a b

-- two cells are in one tree: that of a data variable which no other data variable shares
pub record AreInOneTree (types : List TypeEntry) (vars : List VarEntry) (s : StoreMap) (a b : CellId) : Type 0 where
  pub tree : VarId
  pub has_one : IsInTree types vars s tree a
  pub has_other : IsInTree types vars s tree b
  pub no_other : (v : VarId) → IsInTree types vars s v a ⊎ IsInTree types vars s v b → v ≡ tree
