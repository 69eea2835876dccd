-- The spaces of cells' positions.
use Rattle.std.proofs.Common.{◌≡◌, ℕ, true, false, cond, List, [], ◌∷◌, ◌++◌, take, unwrap_or, Some, None, IfSome, refl, sym, ap, ◌∙◌, subst}
use Rattle.std.specs.Prelude.{count_by}
use Rattle.std.specs.Option.{option_and_then}
use Rattle.gta_theory.specs.Assignments.{Position}
use Rattle.gta_theory.specs.Guides.{Spaces, left, right, space_at}
use Rattle.store_core.specs.declared.ids.TypeId.{TypeId}
use Rattle.store_core.specs.declared.ids.VariantId.{VariantId}
use Rattle.store_core.specs.declared.ids.FieldId.{FieldId}
use Rattle.store_core.specs.declared.ids.VarId.{VarId}
use Rattle.store_core.specs.declared.ids.CellId.{CellId}
use Rattle.store_core.specs.declared.kind.FieldKind.{FieldKind}
use Rattle.store_core.specs.declared.kind.FieldKind.TheVariants as field
use Rattle.store_core.specs.declared.kind.VarKind.{VarKind}
use Rattle.store_core.specs.declared.kind.VarKind.TheVariants as var
use Rattle.store_core.specs.declared.value.Value.{Value}
use Rattle.store_core.specs.declared.value.Value.TheVariants as value
use Rattle.store_core.specs.Tables.{TypeEntry, FieldEntry, VarEntry, field_at, var_at}
use Rattle.store_core.specs.Stores.{StoreMap, CellEntry, cell_of, field_of, field_value, var_value}
use Rattle.store_core.proofs.FittingLemmas.{IfSome-at, IsSomeAnd-at, same_type}
use Rattle.routing_walks.specs.declared.fault.Place.TheVariants as place
use Rattle.routing_walks.specs.Walks.{DataAlone, IsFollowed, Leads, IsOfType}
use Rattle.routing_walks.specs.WellFormed.{IsDataVar, Names, VarHoldsLive, FieldHoldsLive, IsBackbone}
use Rattle.routing_walks.specs.Paths.{LeadsAlong}
use Rattle.ws2s_forms.specs.Places.{ones, child_of, slot_of}
use Rattle.tree_encode.specs.declared.counting.Counted.TheVariants.{Children}
use Rattle.tree_encode.specs.Counting.{counts, is_counted, rank, is_data_var, is_data_kind}
use Rattle.tree_encode.specs.Tracks.{slot_of_var, child_number}
use Rattle.tree_encode.specs.Spaces.{first_space, guide_of, types_start}
use Rattle.tree_encode.specs.Positions.{below, IsPlaced}
use Rattle.tree_encode.proofs.TracksLemmas.{and_then-some, fielded}
use Rattle.tree_encode.proofs.PlacesLemmas.{space-slot, space-child, slot-type, child-type}

space_at-append : (g : Spaces) (u v : Position) (s : ℕ) → space_at g s (u ++ v) ≡ space_at g (space_at g s u) v
space_at-append g [] v s = refl
space_at-append g (false ∷ u) v s = space_at-append g u v (left g s)
space_at-append g (true ∷ u) v s = space_at-append g u v (right g s)

-- ---- data fields and data variables

pub data_field : (kind : FieldKind) → IsFollowed DataAlone kind → (ty : TypeId) × (kind ≡ field.Data ty)
data_field field.Bool h = absurd h
data_field (field.Data ty) h = (ty, refl)
data_field (field.Pointer ty along) h = absurd h

pub data_var : (kind : VarKind) → IsDataVar kind → (ty : TypeId) × (kind ≡ var.Data ty)
data_var var.Bool h = absurd h
data_var (var.Data ty) h = (ty, refl)
data_var (var.Pointer ty) h = absurd h
data_var (var.LogicSet ty) h = absurd h
data_var var.LogicBool h = absurd h

-- the number of a data field, and the slot of a data variable
pub numbered : (types : List TypeEntry) (f : FieldId) (entry : FieldEntry) (ty : TypeId) → field_at types f ≡ Some entry → entry.kind ≡ field.Data ty →
    child_number types f ≡ Some (rank Children types f)
numbered types f entry ty there kind =
    ap (λ o. option_and_then (λ e. cond (is_counted Children e) (Some (rank Children types f)) None) o) there
    ∙ ap (λ k. cond (counts Children k) (Some (rank Children types f)) None) kind

pub slotted : (vars : List VarEntry) (v : VarId) (entry : VarEntry) (ty : TypeId) → var_at vars v ≡ Some entry → entry.kind ≡ var.Data ty →
    slot_of_var vars v ≡ Some (count_by is_data_var (take v.0 vars))
slotted vars v entry ty there kind =
    ap (λ o. option_and_then (λ e. cond (is_data_var e) (Some (count_by is_data_var (take v.0 vars))) None) o) there
    ∙ ap (λ k. cond (is_data_kind k) (Some (count_by is_data_var (take v.0 vars))) None) kind

-- a cell with a field is of the field's type
pub own_type : (s : StoreMap) (c : CellId) (f : FieldId) (x : Value) → field_value s c f ≡ Some x →
    (cell : CellEntry) × (cell_of s c ≡ Some cell) × (cell.variant.ty ≡ f.ty)
own_type s c f x is =
    let (cell, at, has) = and_then-some (λ cell. field_of cell f) (cell_of s c) x is in
    (cell, at, (same_type cell f x has).0)

-- ---- spaces

-- the position is in the first space of the cell's type
abbrev pub InFirst : List TypeEntry → List VarEntry → List VariantId → StoreMap → CellId → Position → Type 0
InFirst types vars spares s c u =
    (cell : CellEntry) × (cell_of s c ≡ Some cell) × (space_at (guide_of types vars spares) 0 u ≡ first_space types (types_start vars spares) cell.variant.ty)

-- at the slot of a data variable
at_slot : (types : List TypeEntry) (vars : List VarEntry) (spares : List VariantId) (s : StoreMap) (v : VarId) (c : CellId) → IsBackbone types vars s →
    Names types vars s (place.Var v) c → InFirst types vars spares s c (slot_of (unwrap_or (slot_of_var vars v) 0))
at_slot types vars spares s v c backbone names =
    let (entry, there, is_data) = IsSomeAnd-at (var_at vars v) (λ e. IsDataVar e.kind) names.place in
    let (ty, kind) = data_var entry.kind is_data in
    let holds : VarHoldsLive s entry.kind (value.Cell (Some c)) =
    IfSome-at (var_value s v) (VarHoldsLive s entry.kind) (value.Cell (Some c)) names.value
    (IfSome-at (var_at vars v) (λ e. IfSome (var_value s v) (VarHoldsLive s e.kind)) entry there (backbone.cell_vars v)) in
    let typed : IsOfType s ty c = subst (λ k. VarHoldsLive s k (value.Cell (Some c))) kind holds in
    let (cell, live, of_type) = IsSomeAnd-at (cell_of s c) (λ e. e.variant.ty ≡ ty) typed in
    let is = slotted vars v entry ty there kind in (
      cell,
      live,
      ap (λ o. space_at (guide_of types vars spares) 0 (slot_of (unwrap_or o 0))) is
          ∙ space-slot types vars spares (count_by is_data_var (take v.0 vars)) ty
          (slot-type vars spares v entry (count_by is_data_var (take v.0 vars)) ty is there kind)
          ∙ ap (λ t. first_space types (types_start vars spares) t) (sym of_type),
    )

-- at the child that a data field leads to
at_child : (types : List TypeEntry) (vars : List VarEntry) (spares : List VariantId) (s : StoreMap) (f : FieldId) (a b : CellId) (u : Position) →
    IsBackbone types vars s → Leads types s DataAlone f a b → InFirst types vars spares s a u →
    InFirst types vars spares s b (child_of (unwrap_or (child_number types f) 0) u)
at_child types vars spares s f a b u backbone leads (parent, parent_at, parent_space) =
    let (entry, there, is_data) = IsSomeAnd-at (field_at types f) (λ e. IsFollowed DataAlone e.kind) leads.kind in
    let (ty, kind) = data_field entry.kind is_data in
    let holds : FieldHoldsLive s entry.kind (value.Cell (Some b)) =
    IfSome-at (field_value s a f) (FieldHoldsLive s entry.kind) (value.Cell (Some b)) leads.value
    (IfSome-at (field_at types f) (λ e. IfSome (field_value s a f) (FieldHoldsLive s e.kind)) entry there (backbone.data_fields a f)) in
    let typed : IsOfType s ty b = subst (λ k. FieldHoldsLive s k (value.Cell (Some b))) kind holds in
    let (cell, live, of_type) = IsSomeAnd-at (cell_of s b) (λ e. e.variant.ty ≡ ty) typed in
    let is = numbered types f entry ty there kind in
    let (own, own_at, own_type_is) = own_type s a f (value.Cell (Some b)) leads.value in
    let parent_own : parent ≡ own = the_same parent own (sym parent_at ∙ own_at) in
    let (t, t_at, fields) = fielded types f entry there in (
      cell,
      live,
      ap (λ o. space_at (guide_of types vars spares) 0 (child_of (unwrap_or o 0) u)) is
          ∙ space_at-append (guide_of types vars spares) u (ones (rank Children types f) ++ false ∷ []) 0
          ∙ ap (λ n. space_at (guide_of types vars spares) n (ones (rank Children types f) ++ false ∷ []))
          (parent_space ∙ ap (λ (e : CellEntry). first_space types (types_start vars spares) e.variant.ty) parent_own
          ∙ ap (λ k. first_space types (types_start vars spares) k) own_type_is)
          ∙ space-child types vars spares f.ty t (rank Children types f) ty t_at
          (child-type types f t entry (rank Children types f) ty is t_at there kind)
          ∙ ap (λ k. first_space types (types_start vars spares) k) (sym of_type),
    )
  where
    the_same : (x y : CellEntry) → Some x ≡ Some y → x ≡ y
    the_same x y e = cc

-- at the end of data fields
at_end : (types : List TypeEntry) (vars : List VarEntry) (spares : List VariantId) (s : StoreMap) (fields : List FieldId) (a b : CellId) (u : Position) →
    IsBackbone types vars s → LeadsAlong types s fields a b → InFirst types vars spares s a u → InFirst types vars spares s b (below types u fields)
at_end types vars spares s [] a b u backbone stays here = subst (λ c. InFirst types vars spares s c u) stays.0 here
at_end types vars spares s (f ∷ fields) a b u backbone (next, leads, rest) here =
    at_end types vars spares s fields next b (child_of (unwrap_or (child_number types f) 0) u) backbone rest
    (at_child types vars spares s f a next u backbone leads here)

pub placed-space : (types : List TypeEntry) (vars : List VarEntry) (spares : List VariantId) (s : StoreMap) (c : CellId) (cell : CellEntry) (p : Position) →
    IsBackbone types vars s → IsPlaced types vars s c p → cell_of s c ≡ Some cell →
    space_at (guide_of types vars spares) 0 p ≡ first_space types (types_start vars spares) cell.variant.ty
placed-space types vars spares s c cell p backbone placed live =
    let (own, own_at, space) = at_end types vars spares s placed.fields placed.at.root c (slot_of (unwrap_or (slot_of_var vars placed.var) 0)) backbone
    placed.at.along (at_slot types vars spares s placed.var placed.at.root backbone placed.at.named) in
    let same : own ≡ cell = the_same own cell (sym own_at ∙ live) in
    ap (λ q. space_at (guide_of types vars spares) 0 q) placed.position ∙ space
    ∙ ap (λ (e : CellEntry). first_space types (types_start vars spares) e.variant.ty) same
  where
    the_same : (x y : CellEntry) → Some x ≡ Some y → x ≡ y
    the_same x y e = cc
