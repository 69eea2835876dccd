-- Which cells a route joins. (Klarlund and Schwartzbach, POPL 1993, "graph types": routing expressions.)
use Rattle.std.specs.Prelude.{◌≡◌, ◌⊎◌, Bool, ℕ, List, Some, IsSomeAnd}
use Rattle.store_core.specs.declared.ids.TypeId.{TypeId}
use Rattle.store_core.specs.declared.ids.VariantId.{VariantId}
use Rattle.store_core.specs.declared.ids.FieldId.{FieldId}
use Rattle.store_core.specs.declared.ids.CellId.{CellId}
use Rattle.store_core.specs.declared.kind.FieldKind.{FieldKind}
use Rattle.store_core.specs.declared.kind.FieldKind.TheVariants as field
use Rattle.store_core.specs.declared.kind.Route.{Route}
use Rattle.store_core.specs.declared.kind.Route.TheOpen.{Route-F}
use Rattle.store_core.specs.declared.kind.Route.TheFolds.{rec-Route}
use Rattle.store_core.specs.declared.value.Value.TheVariants as value
use Rattle.store_core.specs.Tables.{TypeEntry, field_at}
use Rattle.store_core.specs.Stores.{StoreMap, cell_of, field_value, IsLive}

-- the fields that Down and Up speak of: data fields alone in a declared route, pointer fields too in an assertion
pub data Fields : Type 0 where
  DataAlone : Fields
  DataAndPointers : Fields

-- Down and Up speak of fields of this kind
abbrev pub IsFollowed : Fields → FieldKind → Type 0
IsFollowed fields field.Bool = ⊥
IsFollowed fields (field.Data target) = Unit {0}
IsFollowed DataAlone (field.Pointer target along) = ⊥
IsFollowed DataAndPointers (field.Pointer target along) = Unit {0}

-- ---- one step

-- a's field f is one that is followed and holds the live cell b; a field that holds a dead cell counts as null
pub record Leads (types : List TypeEntry) (s : StoreMap) (fields : Fields) (f : FieldId) (a b : CellId) : Type 0 where
  pub kind : IsSomeAnd (field_at types f) (λ entry. IsFollowed fields entry.kind)
  pub value : field_value s a f ≡ Some (value.Cell (Some b))
  pub live : IsLive s b

-- the field has this name
abbrev pub IsNamed : List TypeEntry → FieldId → List ℕ → Type 0
IsNamed types f name = IsSomeAnd (field_at types f) (λ entry. entry.name ≡ name)

-- some field of this name leads from a to b
pub record LeadsByName (types : List TypeEntry) (s : StoreMap) (fields : Fields) (name : List ℕ) (a b : CellId) : Type 0 where
  pub field : FieldId
  pub named : IsNamed types field name
  pub leads : Leads types s fields field a b

-- some data field leads from a to b
pub record IsParent (types : List TypeEntry) (s : StoreMap) (a b : CellId) : Type 0 where
  pub field : FieldId
  pub leads : Leads types s DataAlone field a b

-- the cell is live and of this type
abbrev pub IsOfType : StoreMap → TypeId → CellId → Type 0
IsOfType s ty c = IsSomeAnd (cell_of s c) (λ cell. cell.variant.ty ≡ ty)

-- the cell is live and of this variant
abbrev pub IsOfVariant : StoreMap → VariantId → CellId → Type 0
IsOfVariant s v c = IsSomeAnd (cell_of s c) (λ cell. cell.variant ≡ v)

-- the cell is live and has a bool field of this name with this truth value
pub record HasTruth (types : List TypeEntry) (s : StoreMap) (name : List ℕ) (truth : Bool) (c : CellId) : Type 0 where
  pub field : FieldId
  pub named : IsNamed types field name
  pub value : field_value s c field ≡ Some (value.Bool truth)

-- the cell is live and no data field leads to it
pub record IsRoot (types : List TypeEntry) (s : StoreMap) (c : CellId) : Type 0 where
  pub live : IsLive s c
  pub alone : (parent : CellId) → IsParent types s parent c → ⊥

-- the cell is live and every data field that it has is null
pub record IsLeaf (types : List TypeEntry) (s : StoreMap) (c : CellId) : Type 0 where
  pub live : IsLive s c
  pub alone : (child : CellId) → IsParent types s c child → ⊥

-- ---- walks

-- finitely many steps one after the other lead from a to b, none included
pub data Chain (s : StoreMap) (Step : CellId → CellId → Type 0) : CellId → CellId → Type 0 where
  stay : (a : CellId) → IsLive s a → Chain s Step a a
  go : (a b c : CellId) → Step a b → Chain s Step b c → Chain s Step a c

-- a test: the pair is of one cell, and the cell passes
abbrev pub Stays : (CellId → Type 0) → CellId → CellId → Type 0
Stays Passes a b = (a ≡ b) × Passes a

-- one form of route joins a to b, by what its parts join
abbrev pub JoinsNode : List TypeEntry → StoreMap → Fields → (Part : Type 0) → (Part → Route) →
    (Part → CellId → CellId → Type 0) → Route-F Part → CellId → CellId → Type 0
JoinsNode types s fields Part whole joins (Route-F.Down name) a b = LeadsByName types s fields name a b
JoinsNode types s fields Part whole joins (Route-F.Up name) a b = LeadsByName types s fields name b a
JoinsNode types s fields Part whole joins Route-F.UpAny a b = IsParent types s b a
JoinsNode types s fields Part whole joins Route-F.Root a b = Stays (IsRoot types s) a b
JoinsNode types s fields Part whole joins Route-F.Leaf a b = Stays (IsLeaf types s) a b
JoinsNode types s fields Part whole joins (Route-F.IsType ty) a b = Stays (IsOfType s ty) a b
JoinsNode types s fields Part whole joins (Route-F.IsVariant v) a b = Stays (IsOfVariant s v) a b
JoinsNode types s fields Part whole joins (Route-F.IsBool name truth) a b = Stays (HasTruth types s name truth) a b
JoinsNode types s fields Part whole joins (Route-F.Then first second) a c = (b : CellId) × joins first a b × joins second b c
JoinsNode types s fields Part whole joins (Route-F.Or one other) a b = joins one a b ⊎ joins other a b
JoinsNode types s fields Part whole joins (Route-F.Star round) a b = Chain s (joins round) a b

-- the route joins a to b
abbrev pub Walk : List TypeEntry → StoreMap → Fields → Route → CellId → CellId → Type 0
Walk types s fields = rec-Route (CellId → CellId → Type 0) (JoinsNode types s fields)
