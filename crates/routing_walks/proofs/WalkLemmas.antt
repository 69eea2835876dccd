-- Walks, form by form.
use Rattle.std.proofs.Common.{◌≡◌, ◌⊎◌, ℕ, Bool, List, ◌↔◌, refl, sym, ap, ◌∙◌}
use mathlib.Core.Path.{transport}
use Rattle.store_core.specs.declared.ids.TypeId.{TypeId}
use Rattle.store_core.specs.declared.ids.VariantId.{VariantId}
use Rattle.store_core.specs.declared.ids.CellId.{CellId}
use Rattle.store_core.specs.declared.kind.Route.{Route, roll-Route}
use Rattle.store_core.specs.declared.kind.Route.TheVariants.{Down, Up, UpAny, Root, Leaf, IsType, IsVariant, IsBool, Then, Or, Star, rolls-Down}
use Rattle.store_core.specs.declared.kind.Route.TheVariants.{rolls-Up, rolls-UpAny, rolls-Root, rolls-Leaf, rolls-IsType, rolls-IsVariant}
use Rattle.store_core.specs.declared.kind.Route.TheVariants.{rolls-IsBool, rolls-Then, rolls-Or, rolls-Star}
use Rattle.store_core.specs.declared.kind.Route.TheOpen.{Route-F}
use Rattle.store_core.specs.declared.kind.Route.TheFolds.{rec-roll-Route, map-Route}
use Rattle.store_core.specs.Tables.{TypeEntry}
use Rattle.store_core.specs.Stores.{StoreMap}
use Rattle.routing_walks.specs.Walks.{Fields, LeadsByName, IsParent, Stays, IsRoot, IsLeaf, IsOfType, IsOfVariant, HasTruth, Chain, JoinsNode, Walk}

module _ (types : List TypeEntry) (s : StoreMap) (fields : Fields) where
  natural : (Part : Type 0) (whole : Part → Route) (joins : Route → CellId → CellId → Type 0) (x : Route-F Part) →
      JoinsNode types s fields Part whole (λ p. joins (whole p)) x ≡
      JoinsNode types s fields Route (λ r. r) joins (map-Route Part Route whole x)
  natural Part whole joins (Route-F.Down name) = refl
  natural Part whole joins (Route-F.Up name) = refl
  natural Part whole joins Route-F.UpAny = refl
  natural Part whole joins Route-F.Root = refl
  natural Part whole joins Route-F.Leaf = refl
  natural Part whole joins (Route-F.IsType ty) = refl
  natural Part whole joins (Route-F.IsVariant v) = refl
  natural Part whole joins (Route-F.IsBool name truth) = refl
  natural Part whole joins (Route-F.Then first second) = refl
  natural Part whole joins (Route-F.Or one other) = refl
  natural Part whole joins (Route-F.Star round) = refl

  Walk-roll : (x : Route-F Route) → Walk types s fields (roll-Route x) ≡ JoinsNode types s fields Route (λ r. r) (Walk types s fields) x
  Walk-roll = rec-roll-Route (CellId → CellId → Type 0) (JoinsNode types s fields) natural

  -- a path between two relations of cells, both ways
  both_ways : {P Q : CellId → CellId → Type 0} → P ≡ Q → (a b : CellId) → P a b ↔ Q a b
  both_ways e a b = (transport (λ i. e i a b), transport (λ i. sym e i a b))

  at_form : (along : Route) (x : Route-F Route) → roll-Route x ≡ along → (a b : CellId) →
      Walk types s fields along a b ↔ JoinsNode types s fields Route (λ r. r) (Walk types s fields) x a b
  at_form along x e = both_ways (ap (Walk types s fields) (sym e) ∙ Walk-roll x)

  pub Walk-Down : (name : List ℕ) (a b : CellId) → Walk types s fields (Down name) a b ↔ LeadsByName types s fields name a b
  Walk-Down name = at_form (Down name) (Route-F.Down name) (rolls-Down name)

  pub Walk-Up : (name : List ℕ) (a b : CellId) → Walk types s fields (Up name) a b ↔ LeadsByName types s fields name b a
  Walk-Up name = at_form (Up name) (Route-F.Up name) (rolls-Up name)

  pub Walk-UpAny : (a b : CellId) → Walk types s fields UpAny a b ↔ IsParent types s b a
  Walk-UpAny = at_form UpAny Route-F.UpAny rolls-UpAny

  pub Walk-Root : (a b : CellId) → Walk types s fields Root a b ↔ Stays (IsRoot types s) a b
  Walk-Root = at_form Root Route-F.Root rolls-Root

  pub Walk-Leaf : (a b : CellId) → Walk types s fields Leaf a b ↔ Stays (IsLeaf types s) a b
  Walk-Leaf = at_form Leaf Route-F.Leaf rolls-Leaf

  pub Walk-IsType : (ty : TypeId) (a b : CellId) → Walk types s fields (IsType ty) a b ↔ Stays (IsOfType s ty) a b
  Walk-IsType ty = at_form (IsType ty) (Route-F.IsType ty) (rolls-IsType ty)

  pub Walk-IsVariant : (v : VariantId) (a b : CellId) → Walk types s fields (IsVariant v) a b ↔ Stays (IsOfVariant s v) a b
  Walk-IsVariant v = at_form (IsVariant v) (Route-F.IsVariant v) (rolls-IsVariant v)

  pub Walk-IsBool : (name : List ℕ) (truth : Bool) (a b : CellId) →
      Walk types s fields (IsBool name truth) a b ↔ Stays (HasTruth types s name truth) a b
  Walk-IsBool name truth = at_form (IsBool name truth) (Route-F.IsBool name truth) (rolls-IsBool name truth)

  pub Walk-Then : (first second : Route) (a c : CellId) →
      Walk types s fields (Then first second) a c ↔ ((b : CellId) × Walk types s fields first a b × Walk types s fields second b c)
  Walk-Then first second = at_form (Then first second) (Route-F.Then first second) (rolls-Then first second)

  pub Walk-Or : (one other : Route) (a b : CellId) →
      Walk types s fields (Or one other) a b ↔ (Walk types s fields one a b ⊎ Walk types s fields other a b)
  Walk-Or one other = at_form (Or one other) (Route-F.Or one other) (rolls-Or one other)

  pub Walk-Star : (round : Route) (a b : CellId) →
      Walk types s fields (Star round) a b ↔ Chain s (Walk types s fields round) a b
  Walk-Star round = at_form (Star round) (Route-F.Star round) (rolls-Star round)
